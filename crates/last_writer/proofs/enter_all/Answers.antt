-- `last_writer::enter_all` meets its contract. Assumes nothing.
use Rattle.std.proofs.Common.{◌≡◌, ◌+◌, ◌*◌, ◌/◌, [], length, get_or, drop, refl, sym, ap, ◌∙◌, arith}
use Rattle.std.proofs.lemmas.Option.{slice_get_within}
use Rattle.expand.proofs.Chunks.{chunk_reads}
use Rattle.last_writer.proofs.Pass.{Going, rest-at, no-rest, going-start, range-end, held-end, off-range, going-on, last-range}
use Rattle.last_writer.proofs.enter_all.Goals as goal
use Rattle.last_writer.proofs.enter_all.Goals.{Else-not-enter, After-enter-in-Some}

pub loop-i-init : goal.loop-i-init
loop-i-init c = going-start _ _ _

pub returns-then-not-enter-clause-range : goal.returns-then-not-enter-clause-range
returns-then-not-enter-clause-range c =
    let i = c.loop-i.i in
    let rs = c.args.records.now in
    off-range _ rs _ _ (2 * i) c.loop-i.invariant (omega arith) (sym (chunk_reads 2 rs i 0 (2 * i) [] c.as_chunks.ensures.front (omega arith) (omega arith) (omega arith))) c.if-not-enter.ensures.range

-- after the first record of a pair
one_on : (c : Else-not-enter) → Going c.args.from c.args.records.now c.args.held.now c.enter.new.held (2 * c.loop-i.i + 1)
one_on c =
    let i = c.loop-i.i in
    let rs = c.args.records.now in
    going-on _ rs _ _ (2 * i) c.loop-i.invariant (omega arith) (sym (chunk_reads 2 rs i 0 (2 * i) [] c.as_chunks.ensures.front (omega arith) (omega arith) (omega arith)))
    refl c.if-not-enter.ensures.range (c.if-not-enter.ensures.held refl)

pub returns-then-not-enter-2-clause-range : goal.returns-then-not-enter-2-clause-range
returns-then-not-enter-2-clause-range c =
    let i = c.loop-i.i in
    let rs = c.args.records.now in
    off-range _ rs _ _ (2 * i + 1) (one_on (goal.at.returns-then-not-enter-2-clause-range c).Else-not-enter) (omega arith)
    (sym (chunk_reads 2 rs i 1 (2 * i + 1) [] c.as_chunks.ensures.front (omega arith) (omega arith) (omega arith))) c.if-not-enter-2.ensures.range

pub loop-i-preserved : goal.loop-i-preserved
loop-i-preserved c =
    let i = c.loop-i.i in
    let rs = c.args.records.now in
    let e : 2 * i + 1 + 1 ≡ 2 * (i + 1) = omega arith in
    rw e at
    (going-on _ rs _ _ (2 * i + 1) (one_on (goal.at.loop-i-preserved c).Else-not-enter) (omega arith)
    (sym (chunk_reads 2 rs i 1 (2 * i + 1) [] c.as_chunks.ensures.front (omega arith) (omega arith) (omega arith)))
    (omega arith) c.if-not-enter-2.ensures.range (c.if-not-enter-2.ensures.held refl))

-- the record behind the pairs
last_is : (c : After-enter-in-Some) → get_or c.args.records.now (2 * c.loop-i.i) [] ≡ c.in-Some.last.now
last_is c =
    let rs = c.args.records.now in
    let e : length rs / 2 * 2 ≡ 2 * c.loop-i.i = omega arith in
    rest-at rs c.as_chunks.result.1.now (2 * c.loop-i.i) c.in-Some.last.now [] (c.as_chunks.ensures.back ∙ ap (λ k. drop k rs) e) c.in-Some.ensures.value

pub returns-in-Some-clause-range : goal.returns-in-Some-clause-range
returns-in-Some-clause-range c =
    let within = slice_get_within c.as_chunks.result.1.now 0 c.in-Some.last.now (sym c.in-Some.ensures.value) in
    let is = last_is (goal.at.returns-in-Some-clause-range c).After-enter-in-Some in
    c.enter-in-Some.ensures.range ∙ sym (last-range _ c.args.records.now _ _ (2 * c.loop-i.i) c.loop-i.invariant (omega (arith, within)) is (omega arith))

pub returns-in-Some-clause-held : goal.returns-in-Some-clause-held
returns-in-Some-clause-held c e =
    let k = 2 * c.loop-i.i in
    let rs = c.args.records.now in
    let within = slice_get_within c.as_chunks.result.1.now 0 c.in-Some.last.now (sym c.in-Some.ensures.value) in
    let is = last_is (goal.at.returns-in-Some-clause-held c).After-enter-in-Some in
    let on = going-on _ rs _ _ k c.loop-i.invariant (omega (arith, within)) is (omega arith) (sym e ∙ c.enter-in-Some.ensures.range) (c.enter-in-Some.ensures.held e) in
    held-end _ _ _ _ (k + 1) on (omega arith)

pub returns-in-None-clause-range : goal.returns-in-None-clause-range
returns-in-None-clause-range c =
    let none = no-rest c.as_chunks.result.1.now c.in-None.ensures.value in
    range-end _ _ _ _ (2 * c.loop-i.i) c.loop-i.invariant (omega (arith, none))

pub returns-in-None-clause-held : goal.returns-in-None-clause-held
returns-in-None-clause-held c e =
    let none = no-rest c.as_chunks.result.1.now c.in-None.ensures.value in
    held-end _ _ _ _ (2 * c.loop-i.i) c.loop-i.invariant (omega (arith, none))
