-- `trace_answer::fill_words` meets its contract. Assumes nothing.
use mathlib.Core.Path.{◌≡◌}
use Prim.Native.Nat.{◌/◌, ◌-◌}
use native.Mathlib.Omega.{arith}
use lib.ListN.{length}
use Rattle.trace_answer.specs.Trace.{words_from}
use Rattle.trace_answer.proofs.Laws.{one_filled, all_filled, word_is, words-next}
use Rattle.trace_answer.proofs.fill_words.Goals as goal

pub loop-i-preserved : goal.loop-i-preserved
loop-i-preserved c =
    let l = c.loop-i in
    let bytes = c.args.bytes.now in
    rw (c.from_le_bytes.ensures, word_is bytes l.i c.as_chunks.ensures.front (omega arith))
    (one_filled _ l.invariant (words-next bytes (length bytes / 4) l.i (omega arith)) (omega arith))

pub returns : goal.returns
unfolding words_from
returns c =
    let l = c.loop-i in
    let e : length c.args.bytes.now / 4 - l.i ≡ 0 = omega arith in
    all_filled _ (rw e at l.invariant) (omega arith)
