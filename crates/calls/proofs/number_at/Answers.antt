use Rattle.std.proofs.Common.{inl, inr, sym, ◌∙◌}
use Rattle.calls.proofs.Turns.{short_none, spaceless, spaced, leading-zero, no_leading_zero}
use Rattle.calls.proofs.number_at.Goals.{else-first-eq48-via-then-first-eq48+else-number-at, else-first-eq48-via-else-first-eq48}
use Rattle.calls.proofs.number_at.Goals as goal

pub returns-in_default-clause-number : goal.returns-in_default-clause-number
returns-in_default-clause-number c = short_none c.args.line.now c.args.at c.in_default.len_below

pub returns-then-space-ne32-clause-number : goal.returns-then-space-ne32-clause-number
returns-then-space-ne32-clause-number c = spaceless c.args.line.now c.args.at c.in-len2-up.len_at_least c.if-space-ne32.true

pub returns-in_err-hex_value-clause-number : goal.returns-in_err-hex_value-clause-number
returns-in_err-hex_value-clause-number c =
    let digit = sym c.hex_value.ensures.value ∙ c.in_err-hex_value.was in
    c.from_residual.ensures ∙ (rw digit at (spaced c.args.line.now c.args.at c.in-len2-up.len_at_least c.if-space-ne32.false))

pub returns-in_err-number-clause-number : goal.returns-in_err-number-clause-number
returns-in_err-number-clause-number c =
    let digit = sym c.hex_value.ensures.value ∙ c.in_ok-hex_value.was in
    let number = sym c.digits_at.ensures.number ∙ c.in_err-number.was in
    c.from_residual-in_err-number.ensures
    ∙ (rw (digit, number) at (spaced c.args.line.now c.args.at c.in-len2-up.len_at_least c.if-space-ne32.false))

pub returns-then-number-at-clause-number : goal.returns-then-number-at-clause-number
returns-then-number-at-clause-number c =
    let digit = sym c.hex_value.ensures.value ∙ c.in_ok-hex_value.was in
    let number = sym c.digits_at.ensures.number ∙ c.in_ok-number.was in
    sym (leading-zero _ c.args.at c.in_ok-number.number c.if-first-eq48.true c.if-number-at.true)
    ∙ (rw (digit, number) at (spaced c.args.line.now c.args.at c.in-len2-up.len_at_least c.if-space-ne32.false))

pub returns-clause-number : goal.returns-clause-number
returns-clause-number c =
    let digit = sym c.hex_value.ensures.value ∙ c.in_ok-hex_value.was in
    let number = sym c.digits_at.ensures.number ∙ c.in_ok-number.was in
    let same = no_leading_zero _ c.args.at c.in_ok-number.number
    (elim c.else-first-eq48.branch [
      | else-first-eq48-via-then-first-eq48+else-number-at w ↦ inl (w.if-first-eq48.true, w.if-number-at.false)
      | else-first-eq48-via-else-first-eq48 w ↦ inr w.if-first-eq48.false
    ]) in
    sym same ∙ (rw (digit, number) at (spaced c.args.line.now c.args.at c.in-len2-up.len_at_least c.if-space-ne32.false))
