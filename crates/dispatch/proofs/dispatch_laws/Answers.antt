-- `dispatch::dispatch_laws` ensures the claim. Assumes nothing.
use Rattle.dispatch.proofs.Laws.{claims}
use Rattle.dispatch.proofs.dispatch_laws.Goals as goal

pub returns : goal.returns
returns c = claims
