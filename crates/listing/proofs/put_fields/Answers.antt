use Rattle.std.proofs.Common.{refl}
use Rattle.listing.specs.Steps.{put_fields}
use Rattle.listing.proofs.Laws.{column_filled}
use Rattle.listing.proofs.put_fields.Goals as goal

pub returns : goal.returns
unfolding put_fields
returns c =
    let f = c.args.fields in
    column_filled 31 16 16 f.imm c.fill_hex-2.ensures
    (column_filled 26 1 10 f.funct3 c.fill_decimal-4.ensures
    (column_filled 23 2 10 f.rs2 c.fill_decimal-3.ensures
    (column_filled 20 2 10 f.rs1 c.fill_decimal-2.ensures
    (column_filled 17 2 10 f.rd c.fill_decimal.ensures
    (column_filled 0 8 16 f.raw c.fill_hex.ensures refl)))))
