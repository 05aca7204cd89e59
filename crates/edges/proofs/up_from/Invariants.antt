use Rattle.std.proofs.Common.{◌≡◌, ◌++◌, take, drop}
use Rattle.edges.specs.Cursors.{up_from}
use Rattle.edges.proofs.up_from.Given as goal

abbrev pub invariant-loop-i : goal.invariant-loop-i
invariant-loop-i g l = l.number-items ≡ take l.i (up_from g.row.N l.first) ++ drop l.i l.initial.number-items
