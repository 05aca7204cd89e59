-- The loop's invariant: what is left behind the words so far is for the others.
use Rattle.lines.proofs.Laws.{Left}
use Rattle.lines.proofs.room_behind.Given as goal

abbrev pub invariant-loop-word : goal.invariant-loop-word
invariant-loop-word l = Left l.words l.room l.left l.word-index
