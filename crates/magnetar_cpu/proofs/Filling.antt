-- A list filled from another, place by place. Assumes nothing.
use Rattle.std.proofs.Common.{◌≡◌, ℕ, zero, suc, ◌+◌, ◌≤◌, ◌<◌, List, [], ◌∷◌, ◌++◌, map, length, get_or, set, take, drop, refl, sym, ap, ap₂, ◌∙◌, add-one, add-zero, zero-add, suc-add, append-nil, arith}
use lib.ListN.{drop_of_length-le}

-- the first i places of `now` are f of the first i of `from`, the rest is as in `start`
pub record Filled {A B : Type 0} (f : A → B) (from : List A) (start now : List B) (i : ℕ) : Type 0 where
  pub is : now ≡ map f (take i from) ++ drop i start

module _ {A B : Type 0} (f : A → B) where
  next : (i : ℕ) (from : List A) (start : List B) (d : A) → i < length from → i < length start
      → set (map f (take i from) ++ drop i start) i (f (get_or from i d)) ≡ map f (take (suc i) from) ++ drop (suc i) start
  next zero [] start d h k = absurd (omega arith)
  next zero (a ∷ from) [] d h k = absurd (omega arith)
  next zero (a ∷ from) (b ∷ start) d h k = refl
  next (suc i) [] start d h k = absurd (omega arith)
  next (suc i) (a ∷ from) [] d h k = absurd (omega arith)
  next (suc i) (a ∷ from) (b ∷ start) d h k = ap (λ l. f a ∷ l) (next i from start d (omega arith) (omega arith))

  pub filled_on : (i : ℕ) (from : List A) (start now : List B) (d : A) → Filled f from start now i → i < length from → i < length start
      → Filled f from start (set now i (f (get_or from i d))) (i + 1)
  filled_on i from start now d is h k =
      record { is = ap (λ l. set l i (f (get_or from i d))) is.is ∙ next i from start d h k ∙ ap (λ n. map f (take n from) ++ drop n start) (sym (add-one i)) }

  pub filled_all : (i : ℕ) (from : List A) (start now : List B) → Filled f from start now i → length start ≤ i → now ≡ map f (take i from)
  filled_all i from start now is h = is.is ∙ ap (λ l. map f (take i from) ++ l) (drop_of_length-le start {i = i} h) ∙ append-nil _

-- a place behind others is set
pub set_behind : {B : Type 0} (front rest : List B) (k : ℕ) (b : B) → set (front ++ rest) (length front + k) b ≡ front ++ set rest k b
set_behind [] rest k b = ap (λ i. set rest i b) (zero-add k)
set_behind (a ∷ front) rest k b = ap (λ i. set (a ∷ (front ++ rest)) i b) (suc-add (length front) k) ∙ ap (λ l. a ∷ l) (set_behind front rest k b)

-- the last two places behind n others are set
pub last_two : {B : Type 0} (front rest : List B) (n : ℕ) (p q : B) → length front ≡ n → length rest ≡ 2
    → set (set (front ++ rest) n p) (n + 1) q ≡ front ++ (p ∷ q ∷ [])
last_two front [] n p q h k = absurd (omega arith)
last_two front (a ∷ []) n p q h k = absurd (omega arith)
last_two front (a ∷ b ∷ c ∷ rest) n p q h k = absurd (omega arith)
last_two front (a ∷ b ∷ []) n p q h k =
    ap (λ i. set (set (front ++ (a ∷ b ∷ [])) i p) (n + 1) q) (sym h ∙ sym (add-zero (length front)))
    ∙ ap₂ (λ l i. set l (i + 1) q) (set_behind front (a ∷ b ∷ []) 0 p) (sym h)
    ∙ set_behind front (p ∷ b ∷ []) 1 q
