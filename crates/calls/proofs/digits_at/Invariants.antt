use Rattle.std.proofs.Common.{◌≡◌, ◌+◌, drop, length}
use Rattle.calls.specs.Parse.{digits_from}
use Rattle.calls.proofs.digits_at.Given as goal

abbrev pub invariant-loop-i : goal.invariant-loop-i
invariant-loop-i l =
    (l.at + length l.c-items ≡ length l.line) × (digits_from l.value (l.at + l.i) (drop l.i l.c-items) ≡ digits_from 0 l.at l.c-items)
