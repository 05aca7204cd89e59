use Prim.Native.Nat.{◌≤◌}
use Rattle.expand_vectors.proofs.check_rows.Given as goal

abbrev pub invariant-loop-r : goal.invariant-loop-r
invariant-loop-r l = l.distance ≤ 9
