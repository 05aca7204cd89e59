use Rattle.std.proofs.Common.{◌≡◌, length}
use lib.Seq.{paste}
use Rattle.expand.specs.Expand.{rows_of}
use Rattle.expand.proofs.put.Given as goal

abbrev pub invariant-loop-k : goal.invariant-loop-k
invariant-loop-k l = (length (rows_of l.raw) ≡ 6) × (l.rows ≡ paste l.fn.rows l.i (rows_of l.raw) l.k)
