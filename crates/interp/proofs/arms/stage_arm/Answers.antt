-- `interp::stage_arm` meets its contract. Assumes nothing.
use Rattle.interp.specs.Cycle.{stage_arm}
use Rattle.interp.proofs.arms.stage_arm.Goals as goal

pub returns : goal.returns
unfolding stage_arm
returns c = simp (c.stage_effect.ensures, c.stage_value-v.ensures, c.accumulated-from.ensures)
