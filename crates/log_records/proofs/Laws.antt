-- The records of a log, and of two logs joined. Assumes nothing.
use Rattle.std.proofs.Common.{◌≡◌, ℕ, zero, suc, ◌+◌, ◌*◌, ◌%◌, Bool, true, false, cond, List, [], ◌∷◌, ◌++◌, length, take, drop, None, Some, is_some, unwrap_or, refl, sym, ap, ap₂, ◌∙◌, suc-add, zero-add, arith, length-append}
use mathlib.Core.Bool.{false≢true}
use lib.ListN.{length-drop}
use lib.Seq.{take-append-le, drop-append-le}
use Rattle.std.specs.Simd.{first_chunks}
use Rattle.expand.proofs.Chunks.{length-chunks}
use Rattle.interp.specs.Replay.{records_in}
use Rattle.log_records.specs.Records.{count, is_whole, whole_records}

-- ---- as many as the log has

pub length-records : (log : List ℕ) → length (records_in log) ≡ count log
unfolding records_in
length-records log = length-chunks 17 (count log) log

-- ---- two logs joined, the first of them whole

chunks-append : (n m : ℕ) (a b : List ℕ) → length a ≡ 17 * n → first_chunks 17 (n + m) (a ++ b) ≡ first_chunks 17 n a ++ first_chunks 17 m b
chunks-append zero m [] b h = ap (λ k. first_chunks 17 k b) (zero-add m)
chunks-append zero m (x ∷ a) b h = absurd (omega arith)
chunks-append (suc n) m a b h =
    ap (λ k. first_chunks 17 k (a ++ b)) (suc-add n m)
    ∙ ap₂ (λ r w. r ∷ first_chunks 17 (n + m) w) (take-append-le 17 a b (omega arith)) (drop-append-le 17 a b (omega arith))
    ∙ ap (λ k. take 17 a ∷ k) (chunks-append n m (drop 17 a) b (omega (arith, length-drop 17 a)))

module _ (a b : List ℕ) (whole : length a % 17 ≡ 0) where
  pub count-append : count (a ++ b) ≡ count a + count b
  count-append = omega (arith, length-append a b)

  pub whole-append : length (a ++ b) % 17 ≡ length b % 17
  whole-append = omega (arith, length-append a b)

  pub records-append : records_in (a ++ b) ≡ records_in a ++ records_in b
  unfolding records_in
  records-append = ap (λ k. first_chunks 17 k (a ++ b)) count-append ∙ chunks-append (count a) (count b) a b (omega arith)

-- ---- what `records` answers

module _ (log : List ℕ) where
  pub partial : None ≡ whole_records log → is_whole log ≡ false
  unfolding whole_records
  partial e = go (is_whole log) e
    where
      go : (b : Bool) → None ≡ cond b (Some (records_in log)) None → b ≡ false
      go true h = absurd (false≢true (ap is_some h))
      go false h = refl

  pub taken : (rs : List (List ℕ)) → Some rs ≡ whole_records log → (is_whole log ≡ true) × (rs ≡ records_in log)
  unfolding whole_records
  taken rs e = go (is_whole log) e
    where
      go : (b : Bool) → Some rs ≡ cond b (Some (records_in log)) None → (b ≡ true) × (rs ≡ records_in log)
      go true h = (refl, ap (λ o. unwrap_or o []) h)
      go false h = absurd (false≢true (sym (ap is_some h)))
