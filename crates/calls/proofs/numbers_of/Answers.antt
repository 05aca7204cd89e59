use Rattle.std.proofs.Common.{◌≡◌, suc, ◌-◌, ◌<◌, length, sym, ◌∙◌, arith}
use Rattle.std.proofs.lemmas.Bool.Decides.{nat_tests}
use Rattle.calls.proofs.Turns.{numbers-end, numbers_bad, numbers_full, numbers_on}
use Rattle.calls.proofs.numbers_of.Goals as goal

pub returns-in_err-number : goal.returns-in_err-number
returns-in_err-number c =
    let l = c.loop-at in
    let none = sym c.number_at.ensures.number ∙ c.in_err-number.was in
    c.from_residual.ensures ∙ numbers_bad c.args.line.now l.values.items l.at (omega arith) _ none ∙ l.invariant.2

pub returns-then-is_full : goal.returns-then-is_full
returns-then-is_full c =
    let l = c.loop-at in
    let full : length l.values.items ≡ 17 = grind (arith, nat_tests) in
    numbers_full c.args.line.now l.values.items l.at (omega arith) _ (omega arith) ∙ l.invariant.2

pub loop-at-preserved : goal.loop-at-preserved
loop-at-preserved c =
    let l = c.loop-at in
    let told = sym c.number_at.ensures.number ∙ c.in_ok-number.was in
    let room : length l.values.items < 17 = grind (arith, nat_tests) in
    let more : 17 - length l.values.items ≡ suc (17 - length c.push.new.self.items) = omega arith in
    let on = numbers_on c.args.line.now l.values.items l.at (omega arith) (17 - length c.push.new.self.items) c.in_ok-number.number told in
    (omega (arith, c.in_ok-number.ensures.inside), omega arith, (rw (← c.push.ensures.items) at on) ∙ (rw more at l.invariant.2))

pub returns : goal.returns
returns c =
    let l = c.loop-at in
    numbers-end c.args.line.now l.values.items l.at _ (omega arith) ∙ l.invariant.2
