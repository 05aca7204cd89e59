-- `magnetar_cpu::dispatcher::dispatcher_laws` ensures the claim. Assumes nothing.
use Rattle.magnetar_cpu.proofs.Dispatchers.{dispatcher_laws}
use Rattle.magnetar_cpu.proofs.dispatcher.dispatcher_laws.Goals as goal

pub returns : goal.returns
returns c = dispatcher_laws
