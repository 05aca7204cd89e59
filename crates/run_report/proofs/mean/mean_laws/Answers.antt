-- `run_report::mean_laws` ensures the claim. Assumes nothing.
use Rattle.run_report.proofs.Rounding.{mean_holds}
use Rattle.run_report.proofs.mean.mean_laws.Goals as goal

pub returns : goal.returns
returns c = mean_holds
