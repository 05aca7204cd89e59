-- `trace_answer::fill_input` meets its contract. Assumes nothing.
use mathlib.Core.Path.{◌≡◌, ◌∙◌}
use Prim.Native.Nat.{◌+◌, ◌*◌, ◌%◌, ◌^◌}
use native.Mathlib.Omega.{arith}
use lib.ListN.{get_or}
use Rattle.expand.proofs.Chunks.{chunk_reads}
use Rattle.trace_answer.proofs.Laws.{one_filled, all_filled, pairs-next, pairs-none}
use Rattle.trace_answer.proofs.fill_input.Goals as goal

pub loop-i-preserved : goal.loop-i-preserved
loop-i-preserved c =
    let l = c.loop-i in
    let ws = c.args.words.now in
    let low = c.from.ensures ∙ chunk_reads 2 ws l.i 0 (2 * l.i) 0 c.as_chunks.ensures.front (omega arith) (omega arith) (omega arith) in
    let high = c.from-in-loop-i.ensures ∙ chunk_reads 2 ws l.i 1 (2 * l.i + 1) 0 c.as_chunks.ensures.front (omega arith) (omega arith) (omega arith) in
    let value : c.from.result + c.from-in-loop-i.result * 4294967296 % 18446744073709551616 ≡ get_or ws (2 * l.i) 0 + 2 ^ 32 * get_or ws (2 * l.i + 1) 0 =
    omega (arith, low, high, c.type_inv.words (2 * l.i + 1)) in
    rw value (one_filled _ l.invariant (pairs-next ws l.i (omega arith)) (omega arith))

pub returns : goal.returns
returns c =
    let l = c.loop-i in
    all_filled _ (rw (pairs-none c.args.words.now l.i (omega arith)) at l.invariant) (omega arith)
