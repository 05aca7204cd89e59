-- `run_report::report_laws` ensures the claim. Assumes nothing.
use Rattle.run_report.proofs.Claims.{report_holds}
use Rattle.run_report.proofs.report_laws.Goals as goal

pub returns : goal.returns
returns c = report_holds
