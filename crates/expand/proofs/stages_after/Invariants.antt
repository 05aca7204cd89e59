use mathlib.Core.Path.{◌≡◌}
use Prim.Native.Nat.{◌+◌, ◌-◌, ◌<◌, ◌≤◌, ◌^◌}
use lib.ListN.{length, drop}
use Rattle.expand.specs.Expand.{stages}
use Rattle.expand.specs.Code.{begins_with}
use Rattle.expand.proofs.stages_after.Given as goal

abbrev pub invariant-loop-k : goal.invariant-loop-k
invariant-loop-k l =
    (1 ≤ l.k) × (l.k ≤ 6) × (l.v < 2 ^ 32) × (l.i + 6 ≤ length l.rows) × (begins_with (stages 5 1 l.v) (drop (l.i + 1) l.rows) ≡ begins_with (stages (6 - l.k) l.k l.v) (drop (l.i + l.k) l.rows))
