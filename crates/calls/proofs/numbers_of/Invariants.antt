-- The loop's invariant: the numbers that are left, behind those that were taken, give all the numbers.
use Rattle.std.proofs.Common.{◌≡◌, ◌-◌, ◌≤◌, [], length}
use Rattle.calls.specs.Parse.{numbers_from}
use Rattle.calls.proofs.numbers_of.Given as goal

abbrev pub invariant-loop-at : goal.invariant-loop-at
invariant-loop-at l =
    (l.at ≤ length l.line) × (length l.values.items ≤ 17) × (numbers_from (17 - length l.values.items) l.line l.values.items l.at ≡ numbers_from 17 l.line [] 1)

abbrev pub decreases-loop-at : goal.decreases-loop-at
decreases-loop-at l = length l.line - l.at
