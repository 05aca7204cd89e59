use Rattle.expand.proofs.Filled.{Filled}
use Rattle.expand.proofs.fill.Given as goal

abbrev pub invariant-loop-i : goal.invariant-loop-i
invariant-loop-i l = Filled l.program l.fn.rows l.fn.starts l.rows l.starts l.at.0 l.i
