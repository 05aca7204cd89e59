-- `interp::due_of` meets its contract. Assumes nothing.
use Rattle.std.proofs.Common.{refl, ◌∙◌}
use Rattle.interp.proofs.run.due_of.Goals as goal

pub returns-in-Exactly : goal.returns-in-Exactly
returns-in-Exactly c = rw c.in-Exactly.is refl

pub returns-in-PowerOfTwo : goal.returns-in-PowerOfTwo
returns-in-PowerOfTwo c = c.next_power_of_two.ensures ∙ rw c.in-PowerOfTwo.is refl
