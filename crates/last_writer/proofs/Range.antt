-- Whether a log's records are in range. Assumes nothing.
use Rattle.std.proofs.Common.{◌≡◌, ℕ, zero, suc, ◌%◌, ◌<◌, true, ◌&&◌, List, [], ◌∷◌, ◌++◌, length, get_or, ltb, refl, sym, ap, ◌∙◌, arith, lt-ltb, ltb-true}
use mathlib.Core.Bool.{and_assoc, and-eq-true_iff}
use Rattle.interp.specs.Replay.{word, records_in}
use Rattle.log_records.proofs.Laws.{records-append}
use Rattle.last_writer.specs.Index.{inside, in_range}

range-append : (rs ss : List (List ℕ)) → in_range (rs ++ ss) ≡ (in_range rs && in_range ss)
unfolding in_range
range-append [] ss = refl
range-append (r ∷ rs) ss = ap (λ b. inside r && b) (range-append rs ss) ∙ sym (and_assoc (inside r) (in_range rs) (in_range ss))

pub range-joined : (a b : List ℕ) → length a % 17 ≡ 0 → in_range (records_in (a ++ b)) ≡ (in_range (records_in a) && in_range (records_in b))
range-joined a b h = ap in_range (records-append a b h) ∙ range-append (records_in a) (records_in b)

-- a record's words are in range
pub record Inside (r : List ℕ) : Type 0 where
  pub register : word r 5 < 64
  pub address : word r 6 < 256

pub inside_has : (r : List ℕ) → inside r ≡ true → Inside r
unfolding inside
inside_has r t =
    let both = (and-eq-true_iff (ltb (word r 5) 64) (ltb (word r 6) 256)).0 t in
    record { register = ltb-true _ _ both.0; address = ltb-true _ _ both.1 }

pub all-inside : (rs : List (List ℕ)) → ((k : ℕ) → k < length rs → Inside (get_or rs k [])) → in_range rs ≡ true
unfolding in_range inside
all-inside [] h = refl
all-inside (r ∷ rs) h =
    let here = h 0 (omega arith) in
    rw (lt-ltb _ _ here.register, lt-ltb _ _ here.address) (all-inside rs (λ k l. h (suc k) (omega arith)))

pub range-at : (rs : List (List ℕ)) → in_range rs ≡ true → (j : ℕ) → j < length rs → Inside (get_or rs j [])
unfolding in_range
range-at [] t j h = absurd (omega arith)
range-at (r ∷ rs) t zero h = inside_has r ((and-eq-true_iff (inside r) (in_range rs)).0 t).0
range-at (r ∷ rs) t (suc j) h = range-at rs ((and-eq-true_iff (inside r) (in_range rs)).0 t).1 j (omega arith)
