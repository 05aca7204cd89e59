use Rattle.std.proofs.Common.{sym, ◌∙◌, arith}
use Rattle.listing.proofs.Laws.{digit-read, digit_past, no_digit, digit-fits, all-read}
use Rattle.listing.proofs.number_of.Goals as goal

pub returns-in_err-digit : goal.returns-in_err-digit
returns-in_err-digit c =
    let l = c.loop-c in
    let none = no_digit c.args.base l.number c.args.digits.now l.c-index (omega arith) (sym c.hex_value.ensures.value ∙ c.in_err-digit.was) in
    c.from_residual.ensures ∙ none ∙ l.invariant.1

pub returns-then-base-digit : goal.returns-then-base-digit
returns-then-base-digit c =
    let l = c.loop-c in
    let told = sym c.hex_value.ensures.value ∙ c.in_ok-digit.was in
    digit_past c.args.base l.number c.args.digits.now l.c-index (omega arith) c.in_ok-digit.digit told (omega arith) ∙ l.invariant.1

pub overflow_mul-number : goal.overflow_mul-number
overflow_mul-number c =
    let l = c.loop-c in
    let told = sym c.hex_value.ensures.value ∙ c.in_ok-digit.was in
    record { fits = omega (arith, digit-fits c.args.base l.number c.args.digits.now l.c-index (omega arith) c.in_ok-digit.digit told l.invariant.0 (omega arith) (omega arith)) }

pub overflow_add-number : goal.overflow_add-number
overflow_add-number c =
    let l = c.loop-c in
    let told = sym c.hex_value.ensures.value ∙ c.in_ok-digit.was in
    record { fits = (digit-fits c.args.base l.number c.args.digits.now l.c-index (omega arith) c.in_ok-digit.digit told l.invariant.0 (omega arith) (omega arith)).1 }

pub loop-c-preserved : goal.loop-c-preserved
loop-c-preserved c =
    let l = c.loop-c in
    let told = sym c.hex_value.ensures.value ∙ c.in_ok-digit.was in (
      (digit-fits c.args.base l.number c.args.digits.now l.c-index (omega arith) c.in_ok-digit.digit told l.invariant.0 (omega arith) (omega arith)).0,
      digit-read c.args.base l.number c.args.digits.now l.c-index (omega arith) c.in_ok-digit.digit told (omega arith) ∙ l.invariant.1,
    )

pub returns : goal.returns
returns c = all-read c.args.base c.loop-c.number c.args.digits.now c.loop-c.c-index (omega arith) ∙ c.loop-c.invariant.1
