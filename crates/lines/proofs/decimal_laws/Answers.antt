-- `lines::decimal_laws` ensures the claim. Assumes nothing.
use Rattle.lines.proofs.Claims.{decimal_holds}
use Rattle.lines.proofs.decimal_laws.Goals as goal

pub returns : goal.returns
returns c = decimal_holds
