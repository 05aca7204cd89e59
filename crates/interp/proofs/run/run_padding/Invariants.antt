-- `interp::run_padding` meets its contract. Assumes nothing.
use Rattle.interp.specs.Cycle.{frozen_at}
use Rattle.interp.specs.Code.{whole}
use Rattle.interp.proofs.run.Loops.{Going}
use Rattle.interp.proofs.run.run_padding.Given as goal

abbrev pub invariant-loop-i : goal.invariant-loop-i
invariant-loop-i l =
    Going (frozen_at l.fn.row) l.fn.n l.fn.records (whole l.fn.core l.fn.memory) l.records (whole l.fn.core l.memory) l.i
