-- `lines::put_line` meets its contract. Assumes nothing.
use lib.ListN.{drop}
use Rattle.lines.specs.Lines.{line_of}
use Rattle.lines.proofs.Laws.{Put}
use Rattle.lines.proofs.put_line.Given as goal

abbrev pub invariant-loop-word : goal.invariant-loop-word
invariant-loop-word l = Put l.fn.out l.out l.next (line_of l.words) (line_of (drop l.word-index l.words))
