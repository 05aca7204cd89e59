-- `dispatch::driven::driven_laws` ensures the claim. Assumes nothing.
use Rattle.dispatch.proofs.Drives.{driven_claims}
use Rattle.dispatch.proofs.driven.driven_laws.Goals as goal

pub returns : goal.returns
returns c = driven_claims
