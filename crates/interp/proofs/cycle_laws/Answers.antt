-- `interp::cycle_laws` meets its contract. Assumes nothing.
use Rattle.interp.proofs.Above.{laws}
use Rattle.interp.proofs.cycle_laws.Goals as goal

pub returns : goal.returns
returns c = laws
