-- Places of lists. Assumes nothing.
use mathlib.Core.Path.{◌≡◌, refl, sym, ap, ap₂, ◌∙◌}
use mathlib.Core.List.{List, [], ◌∷◌, ◌++◌, append-nil}
use Prim.Native.Nat.{ℕ, zero, suc, ◌+◌, ◌-◌, ◌<◌, ◌≤◌}
use native.Mathlib.Numerals.{add-one}
use native.Mathlib.Omega.{arith}
use lib.ListN.{length, take, drop, get_or, set, replicate, length-drop, drop_of_length-le}
use lib.Seq.{take-length, drop-cons, get_or-append-add}
use borrow.Author.Tests.{eq-eqb, ne_eqb}
use borrow.Rule.Slice.PartMut.{put_mid}
use Rattle.std.proofs.Common.{Some, None, lt-ltb, le-ltb}
use Rattle.std.proofs.lemmas.List.{drop_all, take-append-le, take_all, length-append, length-replicate}
use Rattle.edges.specs.Compare.{differ_from, differ_place}
use Rattle.edges.specs.Cursors.{up_from, marked_regs}

-- inside, what stands at a place is so whatever stands past the end
pub inside : (l : List ℕ) (i a b : ℕ) → i < length l → get_or l i a ≡ get_or l i b
inside [] i a b h = absurd (omega arith)
inside (x ∷ l) zero a b h = refl
inside (x ∷ l) (suc i) a b h = inside l i a b (omega arith)

-- behind a list stands the next
pub behind : (l m : List ℕ) (i n : ℕ) → length l ≡ n → n ≤ i → get_or (l ++ m) i 0 ≡ get_or m (i - n) 0
behind l m i n size h =
    let e : i ≡ length l + (i - n) = omega arith in
    ap (λ (k : ℕ). get_or (l ++ m) k 0) e ∙ get_or-append-add l m (i - n) 0

-- two lists written one behind the other over all of a third
pub placed : (a b old : List ℕ) (n m : ℕ) → length a ≡ n → length b ≡ m → length old ≡ n + m → put_mid n m (a ++ drop n old) b ≡ a ++ b
placed a b old n m ha hb ho =
    ap₂ (λ (x y : List ℕ). x ++ (b ++ y))
    (take-append-le n a (drop n old) (omega (arith, ha)) ∙ take_all n a (omega (arith, ha)))
    (drop_all m (drop n (a ++ drop n old)) (omega (arith, length-drop n (a ++ drop n old), length-append a (drop n old), length-drop n old, ha, ho)))
    ∙ ap (λ (l : List ℕ). a ++ l) (append-nil b)

-- a buffer whose first i places are those of a new list, and one place more
pub filled_on : (old new : List ℕ) (i : ℕ) → i < length old → i < length new
    → set (take i new ++ drop i old) i (get_or new i 0) ≡ take (suc i) new ++ drop (suc i) old
filled_on old [] i h k = absurd (omega arith)
filled_on [] (y ∷ new) i h k = absurd (omega arith)
filled_on (x ∷ old) (y ∷ new) zero h k = refl
filled_on (x ∷ old) (y ∷ new) (suc i) h k = ap (λ (l : List ℕ). y ∷ l) (filled_on old new i (omega arith) (omega arith))

-- a loop that stores the places of a new list in order, one turn and the end
module _ (old new buffer : List ℕ) (i : ℕ) (same : length old ≡ length new) (so_far : buffer ≡ take i new ++ drop i old) where
  pub stored : (v : ℕ) → i < length new → v ≡ get_or new i 0 → set buffer i v ≡ take (i + 1) new ++ drop (i + 1) old
  stored v here e = rw (so_far, e, add-one) (filled_on old new i (omega arith) here)

  pub all-stored : i ≡ length new → buffer ≡ new
  all-stored all = so_far ∙ rw (all, take-length new, drop_of_length-le old {i = length new} (omega arith), append-nil new)

-- ---- numbers in order

length-up_from : (n k : ℕ) → length (up_from n k) ≡ n
length-up_from zero k = refl
length-up_from (suc n) k = ap suc (length-up_from n (suc k))

pub up_from-at : (n k i : ℕ) → i < n → get_or (up_from n k) i 0 ≡ k + i
up_from-at zero k i h = absurd (omega arith)
up_from-at (suc n) k zero h = omega arith
up_from-at (suc n) k (suc i) h = omega (arith, up_from-at n (suc k) i (omega arith))

pub marked_reg : (i : ℕ) → 1 ≤ i → i < 64 → 30 + i ≡ get_or marked_regs i 0
marked_reg zero h k = absurd (omega arith)
marked_reg (suc i) h k = omega (arith, up_from-at 63 31 i (omega arith))

-- a loop that stores them, one turn and the end
module _ (n k i : ℕ) (cells : List ℕ) (so_far : cells ≡ take i (up_from n k) ++ drop i (replicate n 0)) where
  pub next_number : i < n → set cells i (k + i) ≡ take (i + 1) (up_from n k) ++ drop (i + 1) (replicate n 0)
  next_number here =
      stored
      (replicate n 0)
      (up_from n k)
      cells
      i
      (length-replicate {A = ℕ} n 0 ∙ sym (length-up_from n k))
      so_far
      (k + i)
      (omega (arith, length-up_from n k))
      (sym (up_from-at n k i here))

  pub all_numbers : n ≤ i → cells ≡ up_from n k
  all_numbers past =
      so_far
      ∙ rw (take_all i (up_from n k) (omega (arith, length-up_from n k)), drop_all {X = ℕ} i (replicate n 0) (omega (arith, length-replicate {A = ℕ} n 0))) (append-nil (up_from n k))

-- ---- the first place that differs

module _ (want found : List ℕ) (rest i : ℕ) where
  module _ (here : i < length found) where
    pub same_here : get_or found i 0 ≡ get_or want i rest → differ_from i want rest (drop i found) ≡ differ_from (i + 1) want rest (drop (i + 1) found)
    unfolding differ_from
    same_here e = rw (drop-cons found i 0 here, eq-eqb (get_or found i 0) (get_or want i rest) e, add-one)

    pub other_here : (get_or found i 0 ≡ get_or want i rest → ⊥) → differ_from i want rest (drop i found) ≡ i
    unfolding differ_from
    other_here n = rw (drop-cons found i 0 here, ne_eqb (get_or found i 0) (get_or want i rest) n)

  pub none_left : length found ≤ i → differ_from i want rest (drop i found) ≡ i
  unfolding differ_from
  none_left h = rw (drop_of_length-le found {i = i} h)

-- a turn of the loop
module _ (want found : List ℕ) (rest i : ℕ) (before : differ_from i want rest (drop i found) ≡ differ_from 0 want rest found) where
  module _ (here : i < length found) where
    pub same_on : get_or found i 0 ≡ get_or want i rest → differ_from (i + 1) want rest (drop (i + 1) found) ≡ differ_from 0 want rest found
    same_on e = sym (same_here want found rest i here e) ∙ before

    pub other_is : (get_or found i 0 ≡ get_or want i rest → ⊥) → Some i ≡ differ_place want rest found
    other_is n =
        let at : i ≡ differ_from 0 want rest found = sym (other_here want found rest i here n) ∙ before in
        rw (← at, lt-ltb i (length found) here)

  pub none_is : length found ≤ i → None ≡ differ_place want rest found
  none_is h =
      let at : i ≡ differ_from 0 want rest found = sym (none_left want found rest i h) ∙ before in
      rw (← at, le-ltb i (length found) h)
