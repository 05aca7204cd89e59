-- `interp::padding_arm` meets its contract. Assumes nothing.
use Rattle.interp.specs.Cycle.{padding_arm}
use Rattle.interp.proofs.arms.padding_arm.Goals as goal

pub returns : goal.returns
unfolding padding_arm
returns c = simp (c.plain.ensures, c.no_access.ensures, c.writes_to.ensures, c.showing-shown.ensures)
