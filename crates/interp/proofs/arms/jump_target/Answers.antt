-- `interp::jump_target` meets its contract. Assumes nothing.
use Rattle.std.proofs.Common.{eq-eqb, ne_eqb}
use Rattle.interp.proofs.values.Words.{mask7}
use Rattle.interp.proofs.arms.jump_target.Goals as goal

pub returns-then-row-eq103 : goal.returns-then-row-eq103
returns-then-row-eq103 c = simp (← mask7, eq-eqb _ _ c.if-row-eq103.true, c.jalr_target.ensures)

pub returns-else-row-eq103 : goal.returns-else-row-eq103
returns-else-row-eq103 c = simp (← mask7, ne_eqb _ _ c.if-row-eq103.false, c.branch_target.ensures)
