-- `run_report::sum_of` meets its contract. Assumes nothing.
use Rattle.std.proofs.Common.{arith}
use Rattle.run_report.proofs.Sums.{summing-on, summed-all}
use Rattle.run_report.proofs.sum_of.Goals as goal

pub loop-count-preserved : goal.loop-count-preserved
loop-count-preserved c = let l = c.loop-count in summing-on c.args.counts.now l.count-index l.sum l.is_bad l.invariant c.requires (omega arith)

pub returns-else-is_bad : goal.returns-else-is_bad
returns-else-is_bad c = let l = c.loop-count in summed-all c.args.counts.now l.count-index l.sum l.is_bad l.invariant (omega arith) c.if-is_bad.false
