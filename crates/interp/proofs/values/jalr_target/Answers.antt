use Rattle.interp.proofs.values.Targets.{row_count_pos}
use Rattle.interp.proofs.values.jalr_target.Goals as goal

pub nonzero_rem-result : goal.nonzero_rem-result
nonzero_rem-result c = simp c.row_count.ensures (row_count_pos c.args.rows)

pub returns : goal.returns
returns c = simp (c.row_count.ensures)
