-- `interp::accumulated` meets its contract. Assumes nothing.
use Rattle.std.proofs.Common.{eq-eqb, ne_eqb}
use Rattle.interp.proofs.arms.accumulated.Goals as goal

pub returns-then-stage-eq0 : goal.returns-then-stage-eq0
returns-then-stage-eq0 c = simp (eq-eqb _ _ c.if-stage-eq0.true)

pub returns-else-stage-eq0 : goal.returns-else-stage-eq0
returns-else-stage-eq0 c = simp (ne_eqb _ _ c.if-stage-eq0.false)
