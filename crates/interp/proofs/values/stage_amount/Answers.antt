use Rattle.std.proofs.Common.{◌/◌, ◌%◌, ◌^◌, arith, shl_exact, le-ltb, lt-ltb}
use Rattle.interp.specs.Values.{stage_amount}
use Rattle.interp.proofs.values.Words.{masks}
use Rattle.interp.proofs.values.stage_amount.Goals as goal

pub returns-then-stage-lt6 : goal.returns-then-stage-lt6
unfolding stage_amount
returns-then-stage-lt6 c =
    let k = c.args.stage in
    let d = c.args.b / 2 ^ k % 2 in
    simp (masks, lt-ltb k 6 c.if-stage-lt6.true) (shl_exact {a = d} 1 k 64 (omega arith) (omega arith))

pub returns-else-stage-lt6 : goal.returns-else-stage-lt6
unfolding stage_amount
returns-else-stage-lt6 c = simp (le-ltb _ _ c.if-stage-lt6.false)
