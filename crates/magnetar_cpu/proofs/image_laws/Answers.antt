-- `magnetar_cpu::image_laws` ensures the claim. Assumes nothing.
use Rattle.magnetar_cpu.proofs.Round.{image_laws}
use Rattle.magnetar_cpu.proofs.image_laws.Goals as goal

pub returns : goal.returns
returns c = image_laws
