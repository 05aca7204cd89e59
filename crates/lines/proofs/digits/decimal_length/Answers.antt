-- `lines::digits::decimal_length` meets its contract. Assumes nothing.
use Rattle.std.proofs.Common.{ap, ◌∙◌, ◌+◌}
use Rattle.lines.proofs.Decimal.{digits_by_log}
use Rattle.lines.proofs.digits.decimal_length.Goals as goal

pub returns : goal.returns
returns c =
    let log = c.checked_ilog10.ensures in
    ap (λ k. k + 1) c.unwrap_or.ensures ∙ digits_by_log c.args.n c.checked_ilog10.result c.ranges.n.fits log.none log.power_le log.next_power_gt
