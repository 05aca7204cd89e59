-- `trace_answer::fill_words` meets its contract. Assumes nothing.
use Prim.Native.Nat.{◌/◌, ◌-◌}
use lib.ListN.{length}
use Rattle.trace_answer.specs.Trace.{words_from}
use Rattle.trace_answer.proofs.Laws.{Filled}
use Rattle.trace_answer.proofs.fill_words.Given as goal

abbrev pub invariant-loop-i : goal.invariant-loop-i
invariant-loop-i l =
    let n = length l.bytes / 4 in
    Filled (words_from n 0 l.bytes) l.initial.words l.words (words_from (n - l.i) l.i l.bytes) l.i
