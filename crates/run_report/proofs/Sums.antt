-- The sum of counts none of which is above 2^32, the loop that adds them up, and what lists that are not refused have. Assumes nothing.
use Rattle.std.proofs.Common.{◌≡◌, ℕ, ◌+◌, ◌*◌, ◌%◌, ◌^◌, ◌≤◌, ◌<◌, Bool, true, false, ◌||◌, cond, Option, None, Some, is_some, unwrap_or, List, [], ◌∷◌, length, get_or, drop, nat_lt, sum, refl, sym, ap, ◌∙◌, add-one, zero-add, arith}
use Rattle.std.specs.List.{list_any}
use native.Mathlib.Nat.{mul-suc}
use borrow.Author.Tests.{eqb-true, eqb-false, ltb-false, not-false}
use Rattle.std.proofs.lemmas.Bool.{or_parts}
use Rattle.std.proofs.Math.Bool.{or-false, or_assoc}
use Rattle.std.proofs.lemmas.List.Sums.{sum_by-cons}
use mathlib.Core.Bool.{false≢true}
use lib.ListN.{drop_of_length-le}
use lib.Seq.{drop-cons}
use Rattle.run_report.specs.Report.{bad_runs, bad_count}

-- no count is above a limit, so the sum is at most as many of them
sum_most : (most : ℕ) (counts : List ℕ) → list_any (nat_lt most) counts ≡ false → sum counts ≤ most * length counts
sum_most most [] e = omega arith
sum_most most (x ∷ counts) e =
    let both = or_parts (nat_lt most x) (list_any (nat_lt most) counts) e in
    omega (arith, mul-suc most (length counts), ltb-false most x both.0, sum_most most counts both.1, sum_by-cons (λ x. x) x counts)

pub counts_few : (counts : List ℕ) → bad_count counts ≡ false → sum counts ≤ 2 ^ 32 * length counts
unfolding bad_count
counts_few counts e = sum_most 4294967296 counts e

-- what `sum_of` answers
abbrev pub summed : List ℕ → Option ℕ
summed counts = cond (bad_count counts) None (Some (sum counts))

-- a sum is answered of counts that are fine
pub summed-some : (counts : List ℕ) (total : ℕ) → Some total ≡ summed counts → (bad_count counts ≡ false) × (total ≡ sum counts)
summed-some counts total e = by_test (bad_count counts) e
  where
    by_test : (bad : Bool) → Some total ≡ cond bad None (Some (sum counts)) → (bad ≡ false) × (total ≡ sum counts)
    by_test true e = absurd (false≢true (ap is_some (sym e)))
    by_test false e = (refl, ap (λ o. unwrap_or o 0) e)

-- ---- the loop that adds them up

-- after i counts, of which one is bad or none: only then the sum is that of these counts
pub record Summing (counts : List ℕ) (i total : ℕ) (bad : Bool) : Type 0 where
  pub any : bad_count counts ≡ (bad || bad_count (drop i counts))
  pub fine : bad ≡ false → (sum counts ≡ total + sum (drop i counts)) × (total ≤ 2 ^ 32 * i)

pub summing-start : (counts : List ℕ) → Summing counts 0 0 false
summing-start counts = record { any = refl; fine = λ e. (sym (zero-add (sum counts)), omega arith) }

module _ (counts : List ℕ) (i total : ℕ) (bad : Bool) (s : Summing counts i total bad) where
  -- one more is added
  pub summing-on : length counts ≤ 65536 → i < length counts
      → Summing counts (i + 1) ((total + get_or counts i 0) % 2 ^ 64) (bad || nat_lt 4294967296 (get_or counts i 0))
  unfolding bad_count
  summing-on few more =
      let x = get_or counts i 0 in
      let next : drop i counts ≡ x ∷ drop (i + 1) counts = drop-cons counts i 0 more ∙ ap (λ k. x ∷ drop k counts) (sym (add-one i)) in
      record {
        any = s.any ∙ ap (λ l. bad || bad_count l) next ∙ sym (or_assoc bad (nat_lt 4294967296 x) (bad_count (drop (i + 1) counts)));
        fine = λ e.
            let both = or_parts bad (nat_lt 4294967296 x) e in
            let so_far = s.fine both.0 in
            let small = ltb-false 4294967296 x both.1 in
            (omega (arith, so_far, small, ap sum next, sum_by-cons (λ y. y) x (drop (i + 1) counts)), omega (arith, so_far, small));
      }

  module _ (done : length counts ≤ i) where
    all : bad_count counts ≡ bad
    unfolding bad_count
    all = s.any ∙ ap (λ l. bad || bad_count l) (drop_of_length-le counts {i = i} done) ∙ or-false bad

    pub summed-none : bad ≡ true → None ≡ summed counts
    summed-none e = rw (all, e)

    pub summed-all : bad ≡ false → Some total ≡ summed counts
    summed-all e = rw (all, e) (ap Some (omega (arith, s.fine e, ap sum (drop_of_length-le counts {i = i} done))))

-- ---- lists that are not refused

-- the number of runs
pub record Runs (live records : List ℕ) : Type 0 where
  pub same : length live ≡ length records
  pub some : 0 < length live
  pub most : length live ≤ 65536

pub runs_of : (live records : List ℕ) → bad_runs live records ≡ false → Runs live records
unfolding bad_runs
runs_of live records e =
    let first = or_parts _ _ e in
    let others = or_parts _ _ first.0 in
    record {
      same = eqb-true _ _ (not-false _ others.0);
      some = omega (arith, eqb-false _ _ others.1);
      most = ltb-false _ _ first.1;
    }
