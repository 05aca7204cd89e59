use Rattle.expand.proofs.Filled.{filled_none, filled_on}
use Rattle.expand.proofs.fill.Goals as goal

pub loop-i-init : goal.loop-i-init
loop-i-init c = filled_none _ _ _

pub loop-i-preserved : goal.loop-i-preserved
loop-i-preserved c =
    let at = c.loop-i in
    let put = c.put-at in
    filled_on c.args.program.now c.args.rows.now c.args.starts.now at.rows at.starts at.at.0 at.i at.invariant c.loop-i-test.true c.requires.1 put.new.rows put.result.0 put.ensures.next put.ensures.rows put.auto.rows
