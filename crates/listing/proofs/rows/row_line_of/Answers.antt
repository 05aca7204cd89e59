use Rattle.std.proofs.Common.{refl, ap, ◌∙◌}
use Rattle.listing.specs.RowLines.{line_of_row}
use Rattle.listing.proofs.Laws.{column_filled, row_made}
use Rattle.listing.proofs.rows.row_line_of.Goals as goal

pub returns : goal.returns
returns c =
    row_made c.rom_row-kind.result c.args.distance c.kind_name.ensures c.blank-line.ensures c.put_fields.ensures (column_filled 29 1 10 c.args.distance c.fill_decimal.ensures refl)
    ∙ ap (λ row. line_of_row row c.args.distance) c.rom_row-kind.ensures
