-- `run_report::figures_of` meets its contract. Assumes nothing.
use Rattle.std.proofs.Common.{sym, ◌∙◌, arith}
use Rattle.run_report.proofs.Sums.{summed-some, counts_few, runs_of}
use Rattle.run_report.proofs.figures_of.Goals as goal

pub sum_of-requires : goal.sum_of-requires
sum_of-requires c = (runs_of c.args.live.now c.args.records.now c.requires).most

pub sum_of-requires-2 : goal.sum_of-requires-2
sum_of-requires-2 c = let runs = runs_of c.args.live.now c.args.records.now c.requires in omega (arith, runs.same, runs.most)

pub mean_of-requires : goal.mean_of-requires
mean_of-requires c =
    let live = c.args.live.now in
    let runs = runs_of live c.args.records.now c.requires in
    let (fine, total) = summed-some live _ (sym c.in_ok-live_sum.was ∙ c.sum_of.ensures) in
    (omega (arith, total, counts_few live fine, runs.most), runs.some, runs.most)
