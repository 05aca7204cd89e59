-- What entering records does to an index, and that the index says the latest. Assumes nothing.
use mathlib.Core.Path.{◌≡◌, refl, sym, ap, ◌∙◌}
use mathlib.Core.Bool.{Bool, true, false, cond, ◌&&◌, ◌||◌, false≢true}
use mathlib.Core.List.{List, [], ◌∷◌, ◌++◌}
use Prim.Native.Nat.{ℕ, zero, suc, ◌+◌, ◌^◌, ◌≤◌, ◌<◌}
use native.Mathlib.Nat.{add-zero}
use native.Mathlib.Omega.{arith}
use lib.ListN.{length, get_or, set, length-set}
use lib.Seq.{get_or-set_same, get_or-set_other}
use lib.Dec.{eqb}
use borrow.Author.Tests.{eqb-true, eqb-false}
use Rattle.interp.specs.Replay.{word, stored}
use Rattle.last_writer.specs.Index.{ram_place, none, writes, entered, indexed}
use Rattle.last_writer.specs.Claims.{Unwritten, LastWriter, Says}

-- ---- one place

set-hit : (l : List ℕ) (p x i : ℕ) → x < length l → eqb p x ≡ true → get_or (set l p i) x 0 ≡ i
set-hit l p x i h e = let q : p ≡ x = eqb-true p x e in rw q (get_or-set_same l x i 0 h)

set-miss : (l : List ℕ) (p x i : ℕ) → eqb p x ≡ false → get_or (set l p i) x 0 ≡ get_or l x 0
set-miss l p x i e = get_or-set_other l p x i 0 (λ q. eqb-false p x e (sym q))

-- ---- one record: i goes to place p, and if b to place q

abbrev marked : ℕ → ℕ → ℕ → Bool → List ℕ → List ℕ
marked i p q b l = cond b (set (set l p i) q i) (set l p i)

length-marked : (i p q : ℕ) (b : Bool) (l : List ℕ) → length (marked i p q b l) ≡ length l
length-marked i p q true l = length-set (set l p i) q i ∙ length-set l p i
length-marked i p q false l = length-set l p i

module _ (i p q x : ℕ) (l : List ℕ) where
  marked-other : (b s t : Bool) → eqb p x ≡ s → eqb q x ≡ t → (s || (b && t)) ≡ false → get_or (marked i p q b l) x 0 ≡ get_or l x 0
  marked-other true false false e f h = set-miss (set l p i) q x i f ∙ set-miss l p x i e
  marked-other false false t e f h = set-miss l p x i e
  marked-other true false true e f h = absurd (false≢true (sym h))
  marked-other true true t e f h = absurd (false≢true (sym h))
  marked-other false true t e f h = absurd (false≢true (sym h))

  marked-same : x < length l → (b s t : Bool) → eqb p x ≡ s → eqb q x ≡ t → (s || (b && t)) ≡ true → get_or (marked i p q b l) x 0 ≡ i
  marked-same n true s true e f h = set-hit (set l p i) q x i (rw length-set n) f
  marked-same n true true false e f h = set-miss (set l p i) q x i f ∙ set-hit l p x i n e
  marked-same n false true t e f h = set-hit l p x i n e
  marked-same n true false false e f h = absurd (false≢true h)
  marked-same n false false t e f h = absurd (false≢true h)

module _ (i : ℕ) (r index : List ℕ) where
  pub length-entered : length (entered i r index) ≡ length index
  unfolding entered
  length-entered = length-marked i (word r 5) (ram_place (word r 6)) (stored r) index

  entered-other : (x : ℕ) → writes r x ≡ false → get_or (entered i r index) x 0 ≡ get_or index x 0
  unfolding entered writes
  entered-other x h = marked-other i (word r 5) (ram_place (word r 6)) x index (stored r) _ _ refl refl h

  entered-same : (x : ℕ) → x < length index → writes r x ≡ true → get_or (entered i r index) x 0 ≡ i
  unfolding entered writes
  entered-same x n h = marked-same i (word r 5) (ram_place (word r 6)) x index n (stored r) _ _ refl refl h

-- ---- records in order

pub length-indexed : (i : ℕ) (rs : List (List ℕ)) (index : List ℕ) → length (indexed i rs index) ≡ length index
unfolding indexed
length-indexed i [] index = refl
length-indexed i (r ∷ rs) index = length-indexed (suc i) rs (entered i r index) ∙ length-entered i r index

pub indexed-append : (i : ℕ) (rs ss : List (List ℕ)) (index : List ℕ) → indexed i (rs ++ ss) index ≡ indexed (i + length rs) ss (indexed i rs index)
unfolding indexed
indexed-append i [] ss index = rw add-zero refl
indexed-append i (r ∷ rs) ss index =
    let e : suc i + length rs ≡ i + suc (length rs) = omega arith in
    indexed-append (suc i) rs ss (entered i r index) ∙ ap (λ k. indexed k ss (indexed (suc i) rs (entered i r index))) e

pub indexed-kept : (i : ℕ) (rs : List (List ℕ)) (index : List ℕ) (x : ℕ) → Unwritten rs x → get_or (indexed i rs index) x 0 ≡ get_or index x 0
unfolding indexed
indexed-kept i [] index x u = refl
indexed-kept i (r ∷ rs) index x u =
    indexed-kept (suc i) rs (entered i r index) x (λ j h. u (suc j) (omega arith)) ∙ entered-other i r index x (u 0 (omega arith))

pub indexed-latest : (i : ℕ) (rs : List (List ℕ)) (index : List ℕ) (x j : ℕ) → x < length index → LastWriter rs x j → get_or (indexed i rs index) x 0 ≡ i + j
unfolding indexed
indexed-latest i [] index x j h l = absurd (omega arith)
indexed-latest i (r ∷ rs) index x zero h l =
    indexed-kept (suc i) rs (entered i r index) x (λ j b. l.later (suc j) (omega arith) (omega arith))
    ∙ entered-same i r index x h l.here
    ∙ sym (add-zero i)
indexed-latest i (r ∷ rs) index x (suc j) h l =
    let e : suc i + j ≡ i + suc j = omega arith in
    indexed-latest (suc i) rs (entered i r index) x j (rw length-entered h)
    (record { inside = omega arith; here = l.here; later = λ k p q. l.later (suc k) (omega arith) (omega arith) })
    ∙ e

-- ---- a place has a latest writer, or none

pub data Found (rs : List (List ℕ)) (x : ℕ) : Type 0 where
  wrote : (i : ℕ) → LastWriter rs x i → Found rs x
  never : Unwritten rs x → Found rs x

pub find : (rs : List (List ℕ)) (x : ℕ) → Found rs x
find [] x = never (λ j h. absurd (omega arith))
find (r ∷ rs) x = go (find rs x)
  where
    later : (i : ℕ) → LastWriter rs x i → (j : ℕ) → suc i < j → j < length (r ∷ rs) → writes (get_or (r ∷ rs) j []) x ≡ false
    later i l zero p q = absurd (omega arith)
    later i l (suc j) p q = l.later j (omega arith) (omega arith)

    after : Unwritten rs x → (j : ℕ) → 0 < j → j < length (r ∷ rs) → writes (get_or (r ∷ rs) j []) x ≡ false
    after u zero p q = absurd (omega arith)
    after u (suc j) p q = u j (omega arith)

    none-of : Unwritten rs x → writes r x ≡ false → Unwritten (r ∷ rs) x
    none-of u e zero q = e
    none-of u e (suc j) q = u j (omega arith)

    first : Unwritten rs x → (b : Bool) → writes r x ≡ b → Found (r ∷ rs) x
    first u true e = wrote 0 (record { inside = omega arith; here = e; later = after u })
    first u false e = never (none-of u e)

    go : Found rs x → Found (r ∷ rs) x
    go (wrote i l) = wrote (suc i) (record { inside = omega arith; here = l.here; later = later i l })
    go (never u) = first u (writes r x) refl

-- ---- so the index says the latest

pub says : (rs : List (List ℕ)) (index : List ℕ) (x : ℕ) → x < length index → get_or index x 0 ≡ none → length rs ≤ 2 ^ 62
    → Says rs x (get_or (indexed 0 rs index) x 0)
says rs index x h e few = go (find rs x)
  where
    if : (i : ℕ) → LastWriter rs x i → get_or (indexed 0 rs index) x 0 ≡ i
    if i l = omega (arith, indexed-latest 0 rs index x i h l)

    none_if : Unwritten rs x → get_or (indexed 0 rs index) x 0 ≡ none
    none_if u = indexed-kept 0 rs index x u ∙ e

    go : Found rs x → Says rs x (get_or (indexed 0 rs index) x 0)
    go (wrote i l) =
        record {
          only = λ n. rw (if i l) l;
          if = if;
          none_only = λ w. absurd (omega (arith, if i l, l.inside));
          none_if = none_if;
        }
    go (never u) = record { only = λ n. absurd (n (none_if u)); if = if; none_only = λ w. u; none_if = none_if }
