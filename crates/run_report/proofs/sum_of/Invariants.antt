-- `run_report::sum_of` meets its contract. Assumes nothing.
use Rattle.run_report.proofs.Sums.{Summing}
use Rattle.run_report.proofs.sum_of.Given as goal

abbrev pub invariant-loop-count : goal.invariant-loop-count
invariant-loop-count l = Summing l.counts l.count-index l.sum l.is_bad
