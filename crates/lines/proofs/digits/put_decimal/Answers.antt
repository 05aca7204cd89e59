-- `lines::digits::put_decimal` meets its contract. Assumes nothing.
use Rattle.std.proofs.Common.{◌++◌, drop, ap, ap₂, ◌∙◌, arith}
use lib.Seq.{length-take-le}
use Rattle.lines.specs.Text.{last_digits}
use Rattle.lines.proofs.Decimal.{decimal_filled}
use Rattle.lines.proofs.digits.put_decimal.Goals as goal

pub returns-clause-text : goal.returns-clause-text
returns-clause-text c =
    let n = c.args.n in
    let out = c.args.out.now in
    let many = c.decimal_length-length.ensures in
    let places = length-take-le c.decimal_length-length.result out (omega arith) ∙ many in
    ap₂ ◌++◌ (c.fill_decimal.ensures ∙ ap (λ k. last_digits 10 k n) places ∙ decimal_filled n (omega arith)) (ap (λ k. drop k out) many)
