-- `interp::execute_laws` meets its contract. Assumes nothing.
use Rattle.interp.proofs.executing.Executing.{execute_laws}
use Rattle.interp.proofs.executing.execute_laws.Goals as goal

pub returns : goal.returns
returns c = execute_laws
