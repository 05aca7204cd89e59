-- `magnetar_cpu::magnetar_same` meets its contract. Assumes nothing.
use mathlib.Core.Path.{refl, ap, ◌∙◌}
use Rattle.interp.specs.Values.{bool_word}
use Rattle.interp.specs.Laws.{uncounted}
use Rattle.checkpoint.specs.Checkpoint.{same_of}
use Rattle.magnetar_cpu.proofs.Images.{cast}
use Rattle.magnetar_cpu.proofs.magnetar_same.Goals as goal

pub returns : goal.returns
unfolding same_of uncounted
returns c =
    c.from.ensures
    ∙ cast c.same.result
    ∙ ap bool_word (c.same.ensures ∙ rw (c.read_checkpoint-first.ensures, c.read_checkpoint-second.ensures) refl)
