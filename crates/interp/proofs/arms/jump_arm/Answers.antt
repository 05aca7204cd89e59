-- `interp::jump_arm` meets its contract. Assumes nothing.
use Rattle.std.proofs.Common.{eq-eqb, ne_eqb}
use Rattle.interp.specs.Cycle.{jump_arm}
use Rattle.interp.proofs.arms.jump_arm.Goals as goal

pub returns-then-row-eq0 : goal.returns-then-row-eq0
unfolding jump_arm
returns-then-row-eq0 c = simp (eq-eqb _ _ c.if-row-eq0.true, c.plain.ensures, c.no_access.ensures, c.keeps_cell.ensures, c.showing-shown.ensures, c.jump_target-target.ensures)

pub returns : goal.returns
unfolding jump_arm
returns c = simp (ne_eqb _ _ c.if-row-eq0.false, c.plain-2.ensures, c.no_access-2.ensures, c.showing-shown-2.ensures, c.link_value-link.ensures, c.jump_target-target.ensures)
