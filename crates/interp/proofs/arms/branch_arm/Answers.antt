-- `interp::branch_arm` meets its contract. Assumes nothing.
use Rattle.interp.specs.Cycle.{branch_arm}
use Rattle.interp.proofs.arms.branch_arm.Goals as goal

pub returns : goal.returns
unfolding branch_arm
returns c = simp (c.plain.ensures, c.no_access.ensures, c.keeps_cell.ensures, c.branch_next-to.ensures, c.showing-shown.ensures, c.branch_flags.ensures, c.branch_taken-taken.ensures)
