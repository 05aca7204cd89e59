-- `last_writer::enter_all` meets its contract. Assumes nothing.
use Prim.Native.Nat.{◌*◌}
use Rattle.last_writer.proofs.Pass.{Going}
use Rattle.last_writer.proofs.enter_all.Given as goal

abbrev pub invariant-loop-i : goal.invariant-loop-i
invariant-loop-i l = Going l.from l.records l.initial.held l.held (2 * l.i)
