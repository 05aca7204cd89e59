-- `checkpoint::same_checkpoint` meets its contract: cycles, in which a cursor and its checkpoint's may differ, do not count. Assumes nothing.
use mathlib.Core.Path.{refl, ◌∙◌}
use Rattle.interp.specs.Laws.{uncounted}
use Rattle.checkpoint.specs.Checkpoint.{same_of}
use Rattle.checkpoint.proofs.same_checkpoint.Goals as goal

pub returns : goal.returns
unfolding same_of uncounted
returns c = c.same.ensures ∙ rw (c.checkpoint_of.ensures, c.checkpoint_of-2.ensures) refl
