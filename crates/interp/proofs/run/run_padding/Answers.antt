-- `interp::run_padding` meets its contract. Assumes nothing.
use Rattle.std.proofs.Common.{refl, arith}
use Rattle.interp.specs.Machine.{flat}
use Rattle.interp.specs.Cycle.{frozen_at}
use Rattle.interp.specs.Calls.{recorded, end}
use Rattle.interp.specs.Code.{whole}
use Rattle.interp.proofs.run.Loops.{going_on}
use Rattle.interp.proofs.run.run_padding.Goals as goal

pub loop-i-init : goal.loop-i-init
unfolding end recorded flat
loop-i-init c = record { state = refl; log = refl; long = refl; upto = omega arith; room = c.requires.1; small = omega arith }

pub loop-i-preserved : goal.loop-i-preserved
loop-i-preserved c =
    let at-loop = c.loop-i in
    let done = c.padding_cycle.ensures in
    going_on (frozen_at c.args.row) c.args.n c.args.records.now _ at-loop.records (whole c.args.core at-loop.memory)
    at-loop.i at-loop.invariant c.loop-i-test.true _ _ done.cursor (simp (c.split_at_mut-rest.ensures.front, c.split_at_mut-rest.ensures.back, c.split_at_mut-part.ensures.back, done.shown))
