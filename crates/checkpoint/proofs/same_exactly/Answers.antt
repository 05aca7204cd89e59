-- `checkpoint::same_exactly` ensures the claim. Assumes nothing.
use Rattle.checkpoint.proofs.Laws.{exact}
use Rattle.checkpoint.proofs.same_exactly.Goals as goal

pub returns : goal.returns
returns c = exact
