-- What the loop of `magnetar_cpu::dispatcher::write_dispatcher` keeps. Assumes nothing.
use Rattle.dispatch.specs.declared.caller.Caller.{Caller}
use Rattle.magnetar_cpu.proofs.Filling.{Filled}
use Rattle.magnetar_cpu.proofs.dispatcher.write_dispatcher.Given as goal

abbrev pub invariant-loop-i : goal.invariant-loop-i
invariant-loop-i l = Filled (λ (caller : Caller). caller.wanted) l.d.callers l.initial.image l.image l.i
