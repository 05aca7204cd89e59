use Rattle.std.proofs.Common.{◌≡◌, drop}
use Rattle.edges.specs.Compare.{differ_from}
use Rattle.edges.proofs.differ_at.Given as goal

abbrev pub invariant-loop-i : goal.invariant-loop-i
invariant-loop-i l = differ_from l.i l.want l.rest (drop l.i l.found) ≡ differ_from 0 l.want l.rest l.found
