-- The answers: what an accepted call met, and what a second call does to what a first one left. Assumes nothing.
use mathlib.Core.Path.{◌≡◌, refl, sym, ap, ap₂, ◌∙◌}
use mathlib.Core.Bool.{Bool, true, false, not, false≢true}
use mathlib.Core.Logic.{◌≢◌}
use Rattle.std.specs.Prelude.{Result, Ok, Err, is_ok}
use mathlib.Core.List.{List, [], ◌∷◌, ◌++◌}
use Prim.Native.Nat.{ℕ, zero, suc, ◌+◌, ◌%◌, ◌^◌, ◌≤◌}
use native.Mathlib.Omega.{arith}
use lib.ListN.{length, get_or, take, drop, length-append, length-drop, length-replicate, take-append-drop}
use lib.Seq.{take_at, drop_at}
use lib.Dec.{eqb, ltb}
use borrow.Author.Tests.{eqb-true, eq-eqb, ltb-false, le-ltb, not-false}
use Rattle.refusal_table.specs.Table.{first_met}
use Rattle.interp.specs.Replay.{records_in}
use Rattle.last_writer.specs.declared.Refusal.{Refusal}
use Rattle.last_writer.specs.declared.Refusal.TheVariants.{Partial, OutOfRange, TooManyRecords, Short}
use Rattle.log_records.specs.Records.{count, is_whole}
use Rattle.log_records.proofs.Laws.{length-records, count-append, whole-append, records-append}
use Rattle.refusal_table.proofs.Laws.{unmet}
use Rattle.last_writer.specs.Index.{places, none, indexed, blank, in_range, record_lines, index_refusals, index_settled, answer_from, added_of, index_refusal_number, index_outcome_number}
use Rattle.last_writer.specs.Claims.{Unwritten, SameAnswer}
use Rattle.last_writer.proofs.Entries.{length-indexed, indexed-append, indexed-kept}
use Rattle.last_writer.proofs.Range.{range-joined}

-- ---- the index of no record

pub length-blank : length blank ≡ places
unfolding blank
length-blank = length-replicate {A = ℕ} places none

-- ---- what an accepted call met

pub record Fine (log : List ℕ) (before given : ℕ) : Type 0 where
  pub whole : length log % 17 ≡ 0
  pub range : in_range (records_in log) ≡ true
  pub few : before + count log ≤ 2 ^ 62
  pub room : places ≤ given

-- of a log of whole records
pub unmet-records : (all_inside : Bool) (n before room : ℕ) → first_met (record_lines all_inside n before room) ≡ 0
    → (all_inside ≡ true) × (before + n ≤ 2 ^ 62) × (places ≤ room)
unmet-records all_inside n before room e =
    let eight = unmet (not all_inside) 8 _ (λ z. omega arith) e in
    let five = unmet (ltb (2 ^ 62) (before + n)) 5 _ (λ z. omega arith) eight.1 in
    let six = unmet (ltb room places) 6 _ (λ z. omega arith) five.1 in
    (not-false _ eight.0, ltb-false _ _ five.0, ltb-false _ _ six.0)

module _ (log : List ℕ) (before room : ℕ) where
  pub fine-only : first_met (index_refusals log before room) ≡ 0 → Fine log before room
  fine-only e =
      let seven = unmet (not (eqb (length log % 17) 0)) 7 _ (λ z. omega arith) e in
      let (range, few, room) = unmet-records _ _ before room seven.1 in
      record { whole = eqb-true _ _ (not-false _ seven.0); range = range; few = few; room = room }

  pub fine-if : Fine log before room → first_met (index_refusals log before room) ≡ 0
  fine-if f = rw (eq-eqb _ _ f.whole, f.range, le-ltb _ _ f.few, le-ltb _ _ f.room)

  -- the tests of the code, one after the other
  pub partial-refused : is_whole log ≡ false → 7 ≡ first_met (index_refusals log before room)
  partial-refused w = rw w refl

  pub whole-passed : is_whole log ≡ true
      → first_met (record_lines (in_range (records_in log)) (count log) before room) ≡ first_met (index_refusals log before room)
  whole-passed w = rw w refl

-- ---- the answer

settled-number : (n : ℕ) (log : List ℕ) (before : ℕ) (start buffer : List ℕ) → (index_settled n log before start buffer).number ≡ n
unfolding index_settled
settled-number zero log before start buffer = refl
settled-number (suc n) log before start buffer = refl

module _ (log : List ℕ) (before : ℕ) (start buffer : List ℕ) where
  pub answer-number : (answer_from log before start buffer).number ≡ first_met (index_refusals log before (length buffer))
  unfolding answer_from
  answer-number = settled-number _ log before start buffer

  pub fine : (answer_from log before start buffer).number ≡ 0 → Fine log before (length buffer)
  fine e = fine-only log before (length buffer) (sym answer-number ∙ e)

  module _ (f : Fine log before (length buffer)) where
    pub accepted : (answer_from log before start buffer).number ≡ 0
    accepted = answer-number ∙ fine-if log before (length buffer) f

    pub answer-index : (answer_from log before start buffer).index ≡ indexed before (records_in log) start ++ drop places buffer
    unfolding answer_from index_settled
    answer-index = ap (λ n. (index_settled n log before start buffer).index) (fine-if log before (length buffer) f)

    -- the buffer keeps its length, and holds the index in front
    module _ (long : length start ≡ places) where
      pub front : length (indexed before (records_in log) start) ≡ places
      front = length-indexed before (records_in log) start ∙ long

      pub answer-length : length (answer_from log before start buffer).index ≡ length buffer
      answer-length = rw (answer-index, length-append, front, length-drop) (omega (arith, f.room))

      pub answer-front : take places (answer_from log before start buffer).index ≡ indexed before (records_in log) start
      answer-front = rw answer-index (take_at (indexed before (records_in log) start) (drop places buffer) places front)

      pub answer-rest : drop places (answer_from log before start buffer).index ≡ drop places buffer
      answer-rest = rw answer-index (drop_at (indexed before (records_in log) start) (drop places buffer) places front)

-- ---- the answer of an outcome

number-some : (why : Refusal) → index_refusal_number why ≢ 0
number-some Partial e = omega arith
number-some OutOfRange e = omega arith
number-some TooManyRecords e = omega arith
number-some Short e = omega arith

pub ok-number : (outcome : Result (Unit {0}) Refusal) → true ≡ is_ok outcome → index_outcome_number outcome ≡ 0
ok-number (Ok done) h = refl
ok-number (Err why) h = absurd (false≢true (sym h))

err-number : (outcome : Result (Unit {0}) Refusal) → false ≡ is_ok outcome → index_outcome_number outcome ≢ 0
err-number (Ok done) h = λ e. false≢true h
err-number (Err why) h = number-some why

settled-refused : (n : ℕ) (log : List ℕ) (before : ℕ) (start buffer : List ℕ) → n ≢ 0 → buffer ≡ (index_settled n log before start buffer).index
unfolding index_settled
settled-refused zero log before start buffer h = absurd (h refl)
settled-refused (suc n) log before start buffer h = refl

-- the outcome of the tests is the answer's number, and if it is a refusal the buffer is as it was
module _ (outcome : Result (Unit {0}) Refusal) (log : List ℕ) (before : ℕ) (start buffer : List ℕ)
    (judged : index_outcome_number outcome ≡ first_met (index_refusals log before (length buffer))) where
  pub outcome-number : index_outcome_number outcome ≡ (answer_from log before start buffer).number
  outcome-number = judged ∙ sym (answer-number log before start buffer)

  pub refused-index : false ≡ is_ok outcome → buffer ≡ (answer_from log before start buffer).index
  unfolding answer_from
  refused-index h = settled-refused _ log before start buffer (λ z. err-number outcome h (judged ∙ z))

  pub accepted-fine : true ≡ is_ok outcome → Fine log before (length buffer)
  accepted-fine h = fine-only log before (length buffer) (sym judged ∙ ok-number outcome h)

settled-start : (n : ℕ) (log : List ℕ) (before : ℕ) (s t buffer : List ℕ) → (n ≡ 0 → s ≡ t) → index_settled n log before s buffer ≡ index_settled n log before t buffer
unfolding index_settled
settled-start zero log before s t buffer h = ap (λ l. index_settled zero log before l buffer) (h refl)
settled-start (suc n) log before s t buffer h = refl

pub answer-start : (log : List ℕ) (before : ℕ) (s t buffer : List ℕ) → (places ≤ length buffer → s ≡ t)
    → answer_from log before s buffer ≡ answer_from log before t buffer
unfolding answer_from
answer-start log before s t buffer h = settled-start _ log before s t buffer (λ e. h (fine-only log before (length buffer) e).room)

-- ---- a second call on what a first one left

module _ (a b : List ℕ) (before : ℕ) (start buffer : List ℕ) (long : length start ≡ places) (f : Fine a before (length buffer)) where
  left : List ℕ
  left = (answer_from a before start buffer).index

  same-number : (added_of b (before + count a) left).number ≡ (answer_from (a ++ b) before start buffer).number
  unfolding left
  same-number =
      let n : before + count (a ++ b) ≡ before + count a + count b = omega (arith, count-append a b f.whole) in
      answer-number b (before + count a) (take places left) left
      ∙ rw (answer-length a before start buffer f long, whole-append a b f.whole, range-joined a b f.whole, f.range, n) refl
      ∙ sym (answer-number (a ++ b) before start buffer)

  same-index : Fine b (before + count a) (length left) → Fine (a ++ b) before (length buffer)
      → (added_of b (before + count a) left).index ≡ (answer_from (a ++ b) before start buffer).index
  unfolding left
  same-index g h =
      answer-index b (before + count a) (take places left) left g
      ∙ ap₂ (λ x y. indexed (before + count a) (records_in b) x ++ y) (answer-front a before start buffer f long) (answer-rest a before start buffer f long)
      ∙ rw (← length-records a, ← indexed-append before (records_in a) (records_in b) start, ← records-append a b f.whole) refl
      ∙ sym (answer-index (a ++ b) before start buffer h)

  pub on : SameAnswer (added_of b (before + count a) (answer_from a before start buffer).index) (answer_from (a ++ b) before start buffer)
  unfolding left
  on =
      record {
        number = same-number;
        index = λ e. same-index (fine b (before + count a) (take places left) left e) (fine (a ++ b) before start buffer (sym same-number ∙ e));
      }

-- ---- a place that is not written

append-place : (p q t : List ℕ) (x : ℕ) → length p ≡ length q → get_or p x 0 ≡ get_or q x 0 → get_or (p ++ t) x 0 ≡ get_or (q ++ t) x 0
append-place [] [] t x h e = refl
append-place [] (b ∷ q) t x h e = absurd (omega arith)
append-place (a ∷ p) [] t x h e = absurd (omega arith)
append-place (a ∷ p) (b ∷ q) t zero h e = e
append-place (a ∷ p) (b ∷ q) t (suc x) h e = append-place p q t x (omega arith) e

settled-place : (n : ℕ) (log : List ℕ) (before : ℕ) (buffer : List ℕ) (x : ℕ) → Unwritten (records_in log) x
    → get_or (index_settled n log before (take places buffer) buffer).index x 0 ≡ get_or buffer x 0
unfolding index_settled
settled-place (suc n) log before buffer x u = refl
settled-place zero log before buffer x u =
    append-place (indexed before (records_in log) (take places buffer)) (take places buffer) (drop places buffer) x
    (length-indexed before (records_in log) (take places buffer)) (indexed-kept before (records_in log) (take places buffer) x u)
    ∙ ap (λ l. get_or l x 0) (take-append-drop places buffer)

pub unwritten : (log : List ℕ) (before : ℕ) (buffer : List ℕ) (x : ℕ) → Unwritten (records_in log) x → get_or (added_of log before buffer).index x 0 ≡ get_or buffer x 0
unfolding answer_from
unwritten log before buffer x u = settled-place (first_met (index_refusals log before (length buffer))) log before buffer x u
