-- The loop's invariant: the digits that are left, read on from `number`, give what all the digits give.
use Rattle.std.proofs.Common.{◌≡◌, ◌^◌, ◌<◌, drop}
use Rattle.listing.specs.Lines.{number_from}
use Rattle.listing.proofs.number_of.Given as goal

abbrev pub invariant-loop-c : goal.invariant-loop-c
invariant-loop-c l =
    (l.number < l.base ^ l.c-index) × (number_from l.base l.number (drop l.c-index l.digits) ≡ number_from l.base 0 l.digits)
