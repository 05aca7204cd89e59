use Rattle.std.proofs.Common.{◌≡◌, ◌+◌, length, sym, ap, ◌∙◌, arith}
use Rattle.calls.specs.Parse.{digits_from, number_up_to}
use Rattle.calls.proofs.Turns.{rest, whole, digits-end, digits_large, digits_on, digits_past}
use Rattle.calls.proofs.digits_at.Goals as goal

pub returns-in_default-clause-number : goal.returns-in_default-clause-number
returns-in_default-clause-number c =
    let l = c.loop-i in
    let line = c.args.line.now in
    let at = c.args.at in
    sym (digits-end (rest line at) at l.value l.i (omega arith) (sym c.hex_value.ensures.value ∙ c.in_default.is))
    ∙ l.invariant.1 ∙ ap (digits_from 0 at) (whole line at)

pub returns-then-value-ge1152921504606846976-clause-number : goal.returns-then-value-ge1152921504606846976-clause-number
returns-then-value-ge1152921504606846976-clause-number c =
    let l = c.loop-i in
    let line = c.args.line.now in
    let at = c.args.at in
    let told = sym c.hex_value.ensures.value ∙ c.in-Some.is in
    sym (digits_large (rest line at) at l.value l.i (omega arith) c.in-Some.d told (omega arith))
    ∙ l.invariant.1 ∙ ap (digits_from 0 at) (whole line at)

pub loop-i-preserved : goal.loop-i-preserved
loop-i-preserved c =
    let l = c.loop-i in
    let line = c.args.line.now in
    let at = c.args.at in
    let told = sym c.hex_value.ensures.value ∙ c.in-Some.is in
    (l.invariant.0, sym (digits_on (rest line at) at l.value l.i (omega arith) c.in-Some.d told (omega arith)) ∙ l.invariant.1)

pub returns-clause-number : goal.returns-clause-number
returns-clause-number c =
    let l = c.loop-i in
    let line = c.args.line.now in
    let at = c.args.at in
    let all : length line ≡ at + l.i = omega (arith, l.invariant.0) in
    ap (number_up_to l.value) all ∙ sym (digits_past (rest line at) at l.value l.i (omega arith))
    ∙ l.invariant.1 ∙ ap (digits_from 0 at) (whole line at)
