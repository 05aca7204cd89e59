-- `interp::upper_arm` meets its contract. Assumes nothing.
use Rattle.interp.specs.Cycle.{upper_arm}
use Rattle.interp.proofs.arms.upper_arm.Goals as goal

pub returns : goal.returns
unfolding upper_arm
returns c = simp (c.plain.ensures, c.no_access.ensures, c.writes_to.ensures, c.showing-shown.ensures, c.upper_value-v.ensures)
