use Rattle.std.proofs.Common.{◌≡◌, refl}
use lib.Seq.{paste-zero}
use Rattle.expand.specs.Expand.{rows_of, stages, later}
use Rattle.expand.proofs.Steps.{six_rows, one_row, put_one}
use Rattle.expand.proofs.put.Goals as goal

pub loop-k-init : goal.loop-k-init
loop-k-init c =
    let six : later c.args.raw ≡ stages 5 1 c.args.raw = six_rows c.args.raw c.is_reg_shift.result c.ranges.raw.fits c.is_reg_shift.ensures c.if-is_reg_shift.true in
    (rw six refl, paste-zero c.args.rows.now c.args.at.0 (rows_of c.args.raw))

pub returns : goal.returns
returns c =
    let done = put_one c.args.raw c.args.at.0 c.args.rows.now (one_row c.args.raw c.is_reg_shift.result c.ranges.raw.fits c.is_reg_shift.ensures c.if-is_reg_shift.false) c.requires in
    record { next = done.0; rows = done.1 }
