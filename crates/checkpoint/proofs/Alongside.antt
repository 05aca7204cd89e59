-- Two cursors that are the same go on alike. Of a cycle this uses only that it does not look at cycles. Assumes nothing.
use mathlib.Core.Path.{◌≡◌, refl, sym, ap, ap₂, ◌∙◌}
use mathlib.Core.Logic.{◌≢◌}
use mathlib.Core.Bool.{Bool, true, false, ◌&&◌, cond, true≢false, false≢true}
use mathlib.Core.List.{List, [], ◌∷◌, ◌++◌, map}
use Prim.Native.Nat.{ℕ, zero, suc, ◌+◌, ◌^◌}
use native.Mathlib.Omega.{arith}
use lib.Dec.{eqb}
use lib.ListN.{length, take, drop, get_or}
use borrow.Author.Tests.{eqb-false}
use Rattle.std.specs.Prelude.{nat_lt}
use Rattle.std.proofs.lemmas.Bool.{or_parts}
use Rattle.refusal_table.specs.Table.{Line, line, first_met}
use Rattle.interp.specs.declared.Cursor.{Cursor}
use Rattle.interp.specs.Machine.{flat}
use Rattle.interp.specs.Calls.{recorded, end, Call, segment, padded, amount, lent, turn, is_segment, row_lines, call_lines, refusals, refusal_of, settled, answer_of, counted, added, log, last}
use Rattle.interp.specs.Laws.{uncounted}
use Rattle.interp.proofs.Above.{laws}
use Rattle.checkpoint.specs.Claims.{Made, made, MadeAlike, numbers, meets_5, Alongside, GoesOn}
use Rattle.checkpoint.proofs.Laws.{same_is, is_same}

-- ---- the number of a call

-- one line before them: met, it is the first of both; else what comes behind it decides
cond_but : (b : Bool) (n m x y : ℕ) → (x ≢ n → y ≢ n → x ≡ y) → cond b m x ≢ n → cond b m y ≢ n → cond b m x ≡ cond b m y
cond_but true n m x y h p q = refl
cond_but false n m x y h p q = h p q

-- tables of refusals that differ in whether the lines of number n are met have one first number, where neither's is n
first_but : (n : ℕ) (before after : List Line) (x y : Bool)
    → let l = first_met (before ++ (line n x ∷ after)) in
    let m = first_met (before ++ (line n y ∷ after)) in
    l ≢ n → m ≢ n → l ≡ m
first_but n [] after true y p q = absurd (p refl)
first_but n [] after false true p q = absurd (q refl)
first_but n [] after false false p q = refl
first_but n (l ∷ before) after x y p q = cond_but l.met n l.number _ _ (first_but n before after x y) p q

-- cycles count in line 5 only: the lines before it are those of any cursor that agrees but for cycles
refusal_but : (rows : List ℕ) (c d : Cursor) (k : Call) → uncounted c ≡ uncounted d → refusal_of rows c k ≢ 5 → refusal_of rows d k ≢ 5
    → refusal_of rows c k ≡ refusal_of rows d k
unfolding refusal_of uncounted
refusal_but rows c d k e p q =
    let lines = λ (u : Cursor). call_lines (length rows) u (is_segment k) (amount k) (length (lent k)) in
    let before = λ (u : Cursor). row_lines rows ++ take 1 (lines u) in
    let after = drop 2 (lines d) in
    let fifth = λ (u : Cursor). is_segment k && nat_lt (2 ^ 62) (u.cycles + amount k) in
    let moved : refusal_of rows c k ≡ first_met (before d ++ (line 5 (fifth c) ∷ after)) =
    ap (λ (ls : List Line). first_met (ls ++ (line 5 (fifth c) ∷ after))) (ap before e) in
    moved ∙ first_but 5 (before d) after (fifth c) (fifth d) (λ z. p (moved ∙ z)) q

refusal_alike : (rows : List ℕ) (c : Cursor) (j k : Call) → made j ≡ made k → refusal_of rows c j ≡ refusal_of rows c k
unfolding refusal_of made
refusal_alike rows c j k h = ap (λ (m : Made). first_met (refusals rows c m.seg m.length_asked m.buffer_size)) h

number_is : (rows : List ℕ) (c : Cursor) (k : Call) → (answer_of rows c k).number ≡ refusal_of rows c k
unfolding answer_of settled
number_is rows c k = go (refusal_of rows c k)
  where
    go : (n : ℕ) → (settled n rows c k).number ≡ n
    go zero = refl
    go (suc n) = refl

-- ---- n cycles

turn_alike : (j k : Call) → made j ≡ made k → turn j ≡ turn k
unfolding turn made is_segment
turn_alike (segment m b) (segment n b') e = refl
turn_alike (segment m b) (padded n b') e = absurd (true≢false (ap (λ (x : Made). x.seg) e))
turn_alike (padded m b) (segment n b') e = absurd (false≢true (ap (λ (x : Made). x.seg) e))
turn_alike (padded m b) (padded n b') e = refl

counted_alike : (n : ℕ) (j k : Call) → made j ≡ made k → counted n j ≡ counted n k
unfolding counted made
counted_alike zero j k e = ap (λ (x : Made). x.length_asked) e
counted_alike (suc n) j k e = refl

module _ (k : Call) (rows : List ℕ) where
  turns : (n : ℕ) (c d : Cursor) → uncounted c ≡ uncounted d
      → (recorded (turn k rows) n c ≡ recorded (turn k rows) n d) × (uncounted (end (turn k rows) n c) ≡ uncounted (end (turn k rows) n d))
  unfolding recorded end
  turns zero c d e = (refl, e)
  turns (suc n) c d e =
      let one = laws.not_counted rows k c d e in
      let later = turns n (turn k rows c).after (turn k rows d).after one.after in
      (ap₂ ◌∷◌ one.shown later.0, later.1)

-- ---- a call

record CallAlike (rows : List ℕ) (c d : Cursor) (j k : Call) : Type 0 where
  number : (answer_of rows c j).number ≡ (answer_of rows d k).number
  adds : added j (answer_of rows c j) ≡ added k (answer_of rows d k)
  cursor : uncounted (answer_of rows c j).cursor ≡ uncounted (answer_of rows d k).cursor

call_alike : (rows : List ℕ) (c d : Cursor) (j k : Call) → uncounted c ≡ uncounted d → made j ≡ made k
    → (answer_of rows c j).number ≢ 5 → (answer_of rows d k).number ≢ 5 → CallAlike rows c d j k
call_alike rows c d j k e h p q =
    let alike = refusal_alike rows d j k h in
    let number : (answer_of rows c j).number ≡ (answer_of rows d k).number =
    number_is rows c j
    ∙ refusal_but rows c d j e (λ z. p (number_is rows c j ∙ z)) (λ z. q (number_is rows d k ∙ sym alike ∙ z))
    ∙ alike
    ∙ sym (number_is rows d k) in
    let n = counted (answer_of rows d k).number k in
    let count : counted (answer_of rows c j).number j ≡ n = ap (λ m. counted m j) number ∙ counted_alike _ j k h in
    let cycles = turns k rows n c d e in
    record {
      number = number;
      adds = laws.adds rows c j ∙ rw (turn_alike j k h, count) (ap flat cycles.0) ∙ sym (laws.adds rows d k);
      cursor = ap uncounted (laws.ends rows c j) ∙ rw (turn_alike j k h, count) cycles.1 ∙ sym (ap uncounted (laws.ends rows d k));
    }

-- ---- a list of calls

alongside : (rows : List ℕ) (c d : Cursor) (js ks : List Call) → uncounted c ≡ uncounted d → MadeAlike js ks
    → meets_5 (numbers rows c js) ≡ false → meets_5 (numbers rows d ks) ≡ false → Alongside rows c d js ks
unfolding numbers log last
alongside rows c d [] [] e h p q = record { refusals = refl; logs = refl; same = is_same c d e }
alongside rows c d [] (k ∷ ks) e h p q = let none : 0 ≡ suc (length (map made ks)) = ap length h in absurd (omega arith)
alongside rows c d (j ∷ js) [] e h p q = let none : suc (length (map made js)) ≡ 0 = ap length h in absurd (omega arith)
alongside rows c d (j ∷ js) (k ∷ ks) e h p q =
    let a = answer_of rows c j in
    let b = answer_of rows d k in
    let (p_here, p_later) = or_parts (eqb a.number 5) (meets_5 (numbers rows a.cursor js)) p in
    let (q_here, q_later) = or_parts (eqb b.number 5) (meets_5 (numbers rows b.cursor ks)) q in
    let call = call_alike rows c d j k e (ap (λ ms. get_or ms 0 (made j)) h) (eqb-false _ _ p_here) (eqb-false _ _ q_here) in
    let later = alongside rows a.cursor b.cursor js ks call.cursor (ap (drop 1) h) p_later q_later in
    record {
      refusals = ap₂ ◌∷◌ call.number later.refusals;
      logs = ap₂ ◌++◌ call.adds later.logs;
      same = later.same;
    }

pub goes_on : GoesOn
goes_on = record { alongside = λ rows a b js ks s h p q. alongside rows a b js ks (same_is a b s) h p q }
