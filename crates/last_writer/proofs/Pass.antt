-- The pass over a log, record by record. Assumes nothing.
use Rattle.std.proofs.Common.{◌≡◌, ℕ, suc, ◌+◌, ◌<◌, ◌≤◌, true, false, ◌&&◌, List, [], ◌∷◌, length, get_or, drop, Some, None, is_some, slice_get, refl, sym, ap, ap₂, ◌∙◌, add-zero, add-one, arith}
use lib.ListN.{drop_of_length-le}
use lib.Seq.{drop-cons}
use Rattle.std.proofs.lemmas.List.{get_or-drop}
use Rattle.std.proofs.lemmas.Option.{get_or_from_slice_get}
use mathlib.Core.Bool.{false≢true, and-true}
use Rattle.last_writer.specs.Index.{entered, indexed, inside, in_range}

-- ---- records two by two

-- the record behind the pairs, if there is one
pub rest-at : {X : Type 0} (xs rest : List X) (k : ℕ) (x d : X) → rest ≡ drop k xs → Some x ≡ slice_get rest 0 → get_or xs k d ≡ x
rest-at xs rest k x d e h =
    sym (get_or-drop k xs 0 d ∙ ap (λ n. get_or xs n d) (add-zero k)) ∙ ap (λ l. get_or l 0 d) (sym e) ∙ get_or_from_slice_get rest 0 x d (sym h)

pub no-rest : {X : Type 0} (rest : List X) → None ≡ slice_get rest 0 → length rest ≡ 0
no-rest [] h = refl
no-rest (x ∷ rest) h = absurd (false≢true (ap is_some h))

-- ---- after i records: those left say what all say

pub record Going (from : ℕ) (rs : List (List ℕ)) (held₀ held : List ℕ) (i : ℕ) : Type 0 where
  pub range : in_range rs ≡ in_range (drop i rs)
  pub index : indexed from rs held₀ ≡ indexed (from + i) (drop i rs) held

pub going-start : (from : ℕ) (rs : List (List ℕ)) (held : List ℕ) → Going from rs held held 0
going-start from rs held = record { range = refl; index = ap (λ k. indexed k rs held) (sym (add-zero from)) }

module _ (from : ℕ) (rs : List (List ℕ)) (held₀ held : List ℕ) (i : ℕ) (g : Going from rs held₀ held i) where
  -- no record is left
  pub range-end : length rs ≤ i → true ≡ in_range rs
  unfolding in_range
  range-end h = sym (g.range ∙ ap in_range (drop_of_length-le rs {i = i} h))

  pub held-end : length rs ≤ i → held ≡ indexed from rs held₀
  unfolding indexed
  held-end h = sym (g.index ∙ ap (λ k. indexed (from + i) k held) (drop_of_length-le rs {i = i} h))

  module _ (more : i < length rs) where
    -- record i is the next
    next : drop i rs ≡ get_or rs i [] ∷ drop (i + 1) rs
    next = drop-cons rs i [] more ∙ ap (λ k. get_or rs i [] ∷ drop k rs) (sym (add-one i))

    -- it is r, and out of range
    pub off-range : {r : List ℕ} → get_or rs i [] ≡ r → false ≡ inside r → false ≡ in_range rs
    unfolding in_range
    off-range is e = sym (g.range ∙ ap in_range next ∙ ap (λ b. b && in_range (drop (i + 1) rs)) (ap inside is ∙ sym e))

    -- it is r, in range, and entered
    pub going-on : {r : List ℕ} {at : ℕ} {new : List ℕ} → get_or rs i [] ≡ r → at ≡ from + i → true ≡ inside r → new ≡ entered at r held
        → Going from rs held₀ new (i + 1)
    unfolding in_range indexed
    going-on {r} {at} {new} is place t put =
        let e : suc (from + i) ≡ from + (i + 1) = omega arith in
        let same : entered (from + i) (get_or rs i []) held ≡ new = ap₂ (λ k l. entered k l held) (sym place) is ∙ sym put in
        record {
          range = g.range ∙ ap in_range next ∙ ap (λ b. b && in_range (drop (i + 1) rs)) (ap inside is ∙ sym t);
          index =
              g.index
              ∙ ap (λ k. indexed (from + i) k held) next
              ∙ ap₂ (λ k l. indexed k (drop (i + 1) rs) l) e same;
        }

    -- it is r, and the last
    pub last-range : {r : List ℕ} → get_or rs i [] ≡ r → length rs ≤ i + 1 → in_range rs ≡ inside r
    unfolding in_range
    last-range {r} is h =
        g.range
        ∙ ap in_range (next ∙ ap₂ ◌∷◌ is (drop_of_length-le rs {i = i + 1} h))
        ∙ and-true (inside r)
