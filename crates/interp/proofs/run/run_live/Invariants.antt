-- `interp::run_live` meets its contract. Assumes nothing.
use Rattle.std.proofs.Common.{◌≡◌, ◌-◌}
use Rattle.interp.specs.Cycle.{live}
use Rattle.interp.specs.Code.{whole}
use Rattle.interp.proofs.run.Loops.{Going}
use Rattle.interp.proofs.run.Halting.{Live, turn-row}
use Rattle.interp.proofs.run.run_live.Given as goal

abbrev pub invariant-loop-core : goal.invariant-loop-core
invariant-loop-core l =
    Live l.rows l.limit (whole l.initial.core l.initial.memory) (whole l.core l.memory) l.i
    × Going (live l.rows) l.limit l.initial.records (whole l.initial.core l.initial.memory) l.records (whole l.core l.memory) l.i
    × (l.at ≡ turn-row (whole l.core l.memory) l.i l.limit)

abbrev pub decreases-loop-core : goal.decreases-loop-core
decreases-loop-core l = l.limit - l.i
