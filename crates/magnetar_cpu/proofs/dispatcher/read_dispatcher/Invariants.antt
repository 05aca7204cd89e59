-- What the loop of `magnetar_cpu::dispatcher::read_dispatcher` keeps. Assumes nothing.
use Rattle.std.proofs.Common.{replicate}
use Rattle.dispatch.specs.Dispatch.{wanting}
use Rattle.magnetar_cpu.proofs.Filling.{Filled}
use Rattle.magnetar_cpu.proofs.dispatcher.read_dispatcher.Given as goal

abbrev pub invariant-loop-i : goal.invariant-loop-i
invariant-loop-i l = Filled wanting l.image (replicate 16 (wanting 0)) l.callers l.i
