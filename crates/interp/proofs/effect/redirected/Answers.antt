-- `interp::redirected` meets its contract. Assumes nothing.
use Rattle.std.proofs.Common.{eq-eqb, ne_eqb}
use Rattle.interp.proofs.effect.redirected.Goals as goal

pub returns-then-rd-eq0 : goal.returns-then-rd-eq0
returns-then-rd-eq0 c = simp (eq-eqb _ _ c.if-rd-eq0.true)

pub returns-else-rd-eq0 : goal.returns-else-rd-eq0
returns-else-rd-eq0 c = simp (ne_eqb _ _ c.if-rd-eq0.false)
