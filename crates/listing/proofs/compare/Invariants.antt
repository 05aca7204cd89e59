-- The loop's invariant: the places that are left, compared on from here, give what all the places give.
use Rattle.std.proofs.Common.{◌≡◌, ◌-◌, ◌≤◌}
use Rattle.listing.specs.Lines.{compare_from, compare_of}
use Rattle.listing.proofs.compare.Given as goal

abbrev pub invariant-loop-i : goal.invariant-loop-i
invariant-loop-i l = (l.n ≤ l.i) × (compare_from (48 - l.i) l.i l.n l.stored l.made ≡ compare_of l.stored l.made)
