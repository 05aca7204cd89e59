-- `interp::demand_3` ensures the claim. Assumes nothing.
use Rattle.interp.proofs.calls.Demand3.{demand3}
use Rattle.interp.proofs.calls.demand_3.Goals as goal

pub returns : goal.returns
returns c = demand3
