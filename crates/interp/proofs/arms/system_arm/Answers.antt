-- `interp::system_arm` meets its contract. Assumes nothing.
use Rattle.interp.specs.Cycle.{system_arm}
use Rattle.interp.proofs.arms.system_arm.Goals as goal

pub returns : goal.returns
unfolding system_arm
returns c = simp (c.no_access.ensures, c.showing-shown.ensures)
