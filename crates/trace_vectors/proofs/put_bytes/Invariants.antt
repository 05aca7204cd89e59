use Rattle.std.proofs.Common.{◌≤◌, length}
use Rattle.arrayvec.specs.ArrayVec.{array_vec_len}
use Rattle.trace_vectors.proofs.put_bytes.Given as goal

abbrev pub invariant-loop-pair : goal.invariant-loop-pair
invariant-loop-pair l =
    (array_vec_len l.bytes ≤ l.pair-index) × (length l.pairs ≤ 4200)
