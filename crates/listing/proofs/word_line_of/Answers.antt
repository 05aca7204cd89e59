use Rattle.std.proofs.Common.{refl, ap, ◌∙◌}
use Rattle.listing.specs.Lines.{line_of_inst}
use Rattle.listing.proofs.Laws.{column_filled, line_made}
use Rattle.listing.proofs.word_line_of.Goals as goal

pub returns : goal.returns
returns c =
    let d = c.decode-opcode in
    line_made d.result c.name_of.ensures c.blank-line.ensures c.put_fields.ensures (column_filled 28 2 16 d.result.funct7 c.fill_hex.ensures refl) ∙ ap line_of_inst d.ensures
