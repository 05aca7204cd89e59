-- `interp::alu_arm` meets its contract. Assumes nothing.
use Rattle.interp.specs.Cycle.{alu_arm}
use Rattle.interp.proofs.arms.alu_arm.Goals as goal

pub returns : goal.returns
unfolding alu_arm
returns c = simp (c.plain.ensures, c.no_access.ensures, c.writes_to.ensures, c.showing-shown.ensures, c.alu_flags.ensures, c.shift_out-shift.ensures, c.alu_value-v.ensures, c.second_operand-b.ensures)
