-- `trace_answer::fill_input` meets its contract. Assumes nothing.
use Prim.Native.Nat.{◌*◌}
use lib.ListN.{drop}
use Rattle.trace_answer.specs.Trace.{pairs_of}
use Rattle.trace_answer.proofs.Laws.{Filled}
use Rattle.trace_answer.proofs.fill_input.Given as goal

abbrev pub invariant-loop-i : goal.invariant-loop-i
invariant-loop-i l = Filled (pairs_of l.words) l.initial.input l.input (pairs_of (drop (2 * l.i) l.words)) l.i
