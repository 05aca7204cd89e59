-- `checkpoint::same_goes_on` ensures the claim. Assumes nothing.
use Rattle.checkpoint.proofs.Alongside.{goes_on}
use Rattle.checkpoint.proofs.same_goes_on.Goals as goal

pub returns : goal.returns
returns c = goes_on
