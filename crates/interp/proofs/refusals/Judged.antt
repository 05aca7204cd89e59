-- What an accepted call has, and what calls return and leave. Assumes nothing.
use Rattle.std.proofs.Common.{◌≡◌, ℕ, zero, suc, ◌+◌, ◌*◌, ◌^◌, ◌<◌, ◌≤◌, Bool, true, false, cond, not, ◌&&◌, eqb, ltb, List, [], ◌++◌, length, drop, sym, refl, ◌∙◌, arith, ltb-false, ltb-true, le-ltb, lt-ltb, ne_eqb}
use mathlib.Core.Bool.{false≢true}
use borrow.Author.Tests.{eqb-false}
use Rattle.refusal_table.specs.Table.{Line, first_met}
use Rattle.expand.specs.Expand.{is_expansion}
use Rattle.refusal_table.proofs.Laws.{unmet}
use Rattle.interp.specs.declared.Cursor.{Cursor}
use Rattle.interp.specs.declared.Refusal.{Refusal}
use Rattle.interp.specs.declared.Refusal.TheVariants.{NoRows, TooManyRows, NoExpansion, OutsideRows, TooManyCycles, Short}
use Rattle.interp.specs.declared.Request.{Request}
use Rattle.interp.specs.declared.Request.TheVariants.{Segment, Padding}
use Rattle.interp.specs.declared.run.Due.TheVariants.{Exactly, PowerOfTwo}
use Rattle.interp.specs.Machine.{start_of, flat}
use Rattle.interp.specs.Code.{core_of, Ready, Room, wants_segment, length_of, limit_of, step_of}
use Rattle.interp.specs.Calls.{recorded, end, Call, call_of, is_segment, amount, lent, turn, row_lines, call_lines, refusals, refusal_of, settled, answer_of, refusal_number}
use Rattle.interp.specs.Execute.{next_power_of_two, length_lines, execute_refusals, executed, execution_for, execute_of}
use Rattle.interp.proofs.run.Powers.{smallest, power_mono}

both : (a b : Bool) → not (a && b) ≡ false → (a ≡ true) × (b ≡ true)
both true true e = (refl, refl)
both true false e = absurd (false≢true (sym e))
both false b e = absurd (false≢true (sym e))

-- ---- the lines that rows meet, and the others behind them

-- no refusal has the number of an accepted call
refused_pos : (why : Refusal) → 0 < refusal_number why
refused_pos NoRows = omega arith
refused_pos TooManyRows = omega arith
refused_pos NoExpansion = omega arith
refused_pos OutsideRows = omega arith
refused_pos TooManyCycles = omega arith
refused_pos Short = omega arith

pub refused_not_0 : (why : Refusal) → eqb (refusal_number why) 0 ≡ false
refused_not_0 why = ne_eqb (refusal_number why) 0 (omega (arith, refused_pos why))

-- rows of an accepted call meet no line, and no other line is met
rows_unmet : (rows : List ℕ) (rest : List Line) → first_met (row_lines rows ++ rest) ≡ 0
    → (eqb (length rows) 0 ≡ false) × (ltb 6291456 (length rows) ≡ false) × (not (is_expansion rows) ≡ false) × (first_met rest ≡ 0)
rows_unmet rows rest e =
    let p₁ = unmet (eqb (length rows) 0) 1 _ (λ z. omega arith) e in
    let p₂ = unmet (ltb 6291456 (length rows)) 2 _ (λ z. omega arith) p₁.1 in
    let p₃ = unmet (not (is_expansion rows)) 3 _ (λ z. omega arith) p₂.1 in
    (p₁.0, p₂.0, p₃.0, p₃.1)

-- rows that meet no line leave it to the other lines
rows_passed : (rows : List ℕ) (rest : List Line) → 0 ≡ first_met (row_lines rows) → first_met rest ≡ first_met (row_lines rows ++ rest)
rows_passed rows rest e = let u = rows_unmet rows [] (sym e) in rw (u.0, u.1, u.2) refl

-- what rows have in an accepted call: there are some, they meet no line, and no other line is met
pub record Passed (rows : List ℕ) (rest : List Line) : Type 0 where
  pub some : 0 < length rows
  pub none : 0 ≡ first_met (row_lines rows)
  pub others : first_met rest ≡ 0

pub rows_accepted : (rows : List ℕ) (rest : List Line) → first_met (row_lines rows ++ rest) ≡ 0 → Passed rows rest
rows_accepted rows rest e =
    let u = rows_unmet rows rest e in
    record { some = omega (arith, eqb-false (length rows) 0 u.0); none = rw (u.0, u.1, u.2) refl; others = u.3 }

-- ---- what an accepted call has

-- only a segment call counts its cycles
few_of : (request : Request) (cycles : ℕ) → (wants_segment request && ltb (2 ^ 62) (cycles + length_of request)) ≡ false
    → 0 < limit_of request → cycles + limit_of request ≤ 2 ^ 62
few_of (Segment n) cycles e p = ltb-false _ _ e
few_of (Padding n) cycles e p = absurd (omega (arith, p))

upto_n : (request : Request) → limit_of request ≤ length_of request
upto_n (Segment n) = omega arith
upto_n (Padding n) = omega arith

pub accepted : (rows : List ℕ) (c : Cursor) (request : Request) (room : ℕ)
    → 0 ≡ first_met (refusals rows c (wants_segment request) (length_of request) room)
    → Ready (length rows) (core_of c) (limit_of request) room × Room (Exactly (length_of request)) (limit_of request) room
accepted rows c request room e =
    let p₃ = rows_accepted rows (call_lines (length rows) c (wants_segment request) (length_of request) room) (sym e) in
    let p₄ = unmet (not (ltb c.micro_pc.0 (length rows) && ltb c.next_fetch.0 (length rows))) 4 _ (λ z. omega arith) p₃.others in
    let p₅ = unmet (wants_segment request && ltb (2 ^ 62) (c.cycles + length_of request)) 5 _ (λ z. omega arith) p₄.1 in
    let p₆ = unmet (ltb room (17 * length_of request)) 6 _ (λ z. omega arith) p₅.1 in
    let inside = both (ltb c.micro_pc.0 (length rows)) (ltb c.next_fetch.0 (length rows)) p₄.0 in
    let fits : 17 * length_of request ≤ room = ltb-false _ _ p₆.0 in (
      record {
        pc = ltb-true _ _ inside.0;
        fetch = ltb-true _ _ inside.1;
        few_cycles = few_of request c.cycles p₅.0;
        fits = omega (arith, fits, upto_n request);
      },
      record { enough = λ count h. omega (arith, h, upto_n request); fits = λ count h. fits },
    )

-- an accepted execution begins at row 0
pub accepted_execution : (rows input : List ℕ) (max room : ℕ) → first_met (execute_refusals rows max room) ≡ 0
    → Ready (length rows) (core_of (start_of input)) max room × ((max ≤ 2 ^ 32) × Room PowerOfTwo max room)
unfolding start_of
accepted_execution rows input max room e =
    let p₃ = rows_accepted rows (length_lines max room) e in
    let p₅ = unmet (ltb (2 ^ 32) max) 5 _ (λ z. omega arith) p₃.others in
    let p₆ = unmet (ltb room (17 * next_power_of_two max)) 6 _ (λ z. omega arith) p₅.1 in
    let few : max ≤ 2 ^ 32 = ltb-false _ _ p₅.0 in
    let fits : 17 * next_power_of_two max ≤ room = ltb-false _ _ p₆.0 in
    let small : max < 2 ^ 64 = omega (arith, few) in (
      record { pc = p₃.some; fetch = p₃.some; few_cycles = λ h. omega (arith, few); fits = omega (arith, fits, (smallest max small).enough) },
      (
        few,
        record {
          enough = λ count h. (smallest count (omega (arith, h, small))).enough;
          fits = λ count h. omega (arith, fits, power_mono count max h small);
        },
      ),
    )

-- on rows that are accepted, a call at a row of theirs is accepted if it fits
pub fits_accepted : (rows : List ℕ) (c : Cursor) (seg : Bool) (n room : ℕ) → 0 ≡ first_met (row_lines rows)
    → c.micro_pc.0 < length rows → c.next_fetch.0 < length rows → cond seg (c.cycles + n) 0 ≤ 2 ^ 62 → 17 * n ≤ room
    → 0 ≡ first_met (refusals rows c seg n room)
fits_accepted rows c seg n room none pc fetch few fits =
    sym (rw (lt-ltb _ _ pc, lt-ltb _ _ fetch, not_long seg few, le-ltb room (17 * n) fits) refl) ∙ rows_passed rows (call_lines (length rows) c seg n room) none
  where
    not_long : (b : Bool) → cond b (c.cycles + n) 0 ≤ 2 ^ 62 → (b && ltb (2 ^ 62) (c.cycles + n)) ≡ false
    not_long true h = le-ltb _ _ h
    not_long false h = refl

-- ---- the answers

-- the number that a call returns is that of the tests
pub judged : (request : Request) (rows : List ℕ) (c : Cursor) (buffer : List ℕ)
    → first_met (refusals rows c (wants_segment request) (length_of request) (length buffer)) ≡ refusal_of rows c (call_of request buffer)
unfolding refusal_of is_segment amount lent
judged (Segment n) rows c buffer = refl
judged (Padding n) rows c buffer = refl

-- a refused call leaves all as it was
refused_leaves : (number : ℕ) (rows : List ℕ) (c : Cursor) (k : Call) → 0 < number
    → settled number rows c k ≡ record { number = number; cursor = c; buffer = lent k }
unfolding settled
refused_leaves zero rows c k p = absurd (omega arith)
refused_leaves (suc number) rows c k p = refl

lent_is : (request : Request) (buffer : List ℕ) → lent (call_of request buffer) ≡ buffer
unfolding lent
lent_is (Segment n) buffer = refl
lent_is (Padding n) buffer = refl

pub refused_answer : (why : Refusal) (request : Request) (rows : List ℕ) (c : Cursor) (buffer : List ℕ)
    → refusal_number why ≡ first_met (refusals rows c (wants_segment request) (length_of request) (length buffer))
    → answer_of rows c (call_of request buffer) ≡ record { number = refusal_number why; cursor = c; buffer = buffer }
unfolding answer_of
refused_answer why request rows c buffer e =
    rw (sym (e ∙ judged request rows c buffer)) (refused_leaves _ rows c (call_of request buffer) (refused_pos why) ∙ rw (lent_is request buffer) refl)

-- an accepted call runs its cycles
ran : (request : Request) (rows : List ℕ) (c : Cursor) (buffer : List ℕ)
    → settled 0 rows c (call_of request buffer)
    ≡ record { number = 0; cursor = end (step_of request rows) (length_of request) c; buffer = flat (recorded (step_of request rows) (length_of request) c) ++ drop (17 * length_of request) buffer }
unfolding settled turn amount lent
ran (Segment n) rows c buffer = refl
ran (Padding n) rows c buffer = refl

pub accepted_answer : (request : Request) (rows : List ℕ) (c : Cursor) (buffer : List ℕ)
    → 0 ≡ first_met (refusals rows c (wants_segment request) (length_of request) (length buffer))
    → answer_of rows c (call_of request buffer)
    ≡ record { number = 0; cursor = end (step_of request rows) (length_of request) c; buffer = flat (recorded (step_of request rows) (length_of request) c) ++ drop (17 * length_of request) buffer }
unfolding answer_of
accepted_answer request rows c buffer e = rw (sym (e ∙ judged request rows c buffer)) (ran request rows c buffer)

-- ---- execute

refused_execution_leaves : (number : ℕ) (rows input : List ℕ) (max : ℕ) (buffer : List ℕ) → 0 < number
    → execution_for number rows input max buffer ≡ record { number = number; live_count = 0; record_count = 0; cursor = start_of []; buffer = buffer }
unfolding execution_for
refused_execution_leaves zero rows input max buffer p = absurd (omega arith)
refused_execution_leaves (suc number) rows input max buffer p = refl

pub refused_execution : (why : Refusal) (rows input : List ℕ) (max : ℕ) (buffer : List ℕ)
    → refusal_number why ≡ first_met (execute_refusals rows max (length buffer))
    → execute_of rows input max buffer ≡ record { number = refusal_number why; live_count = 0; record_count = 0; cursor = start_of []; buffer = buffer }
unfolding execute_of
refused_execution why rows input max buffer e = rw (sym e) (refused_execution_leaves _ rows input max buffer (refused_pos why))

pub accepted_is : (rows input : List ℕ) (max : ℕ) (buffer : List ℕ) → 0 ≡ first_met (execute_refusals rows max (length buffer))
    → execute_of rows input max buffer ≡ executed rows (start_of input) max buffer
unfolding execute_of execution_for
accepted_is rows input max buffer e = rw (sym e) refl
