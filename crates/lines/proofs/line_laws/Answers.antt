-- `lines::line_laws` ensures the claim. Assumes nothing.
use Rattle.lines.proofs.Claims.{line_holds}
use Rattle.lines.proofs.line_laws.Goals as goal

pub returns : goal.returns
returns c = line_holds
