-- A search of the circle finds a caller who is ready, and comes nearer to each who is. Assumes nothing.
use Rattle.std.proofs.Common.{◌≡◌, ℕ, zero, suc, ◌+◌, ◌-◌, ◌%◌, ◌≤◌, ◌<◌, Bool, true, false, cond, Some, None, refl, sym, ap, ◌∙◌, arith}
use mathlib.Core.Bool.{false≢true}
use Rattle.std.specs.Prelude.{Option, is_some}
use Rattle.dispatch.specs.Circle.{one_past, first_ready}

pub past_below : (i : ℕ) → one_past i < 16
past_below i = omega arith

-- ---- how many callers the circle goes on from i to c
pub ahead : ℕ → ℕ → ℕ
ahead i c = (c + (16 - i)) % 16

pub ahead_below : (i c : ℕ) → ahead i c < 16
unfolding ahead
ahead_below i c = omega arith

-- one step past a caller who is not c comes nearer to c
nearer : (i c : ℕ) → i < 16 → c < 16 → (i ≡ c → ⊥) → ahead (one_past i) c < ahead i c
unfolding ahead
nearer i c hi hc n = omega (arith, hi, hc, n)

-- ---- the search
module _ (ready : ℕ → Bool) where
  -- what a search from i answers, as c sees it: a caller, after whom the circle stands nearer to c
  pub record Found (i c : ℕ) (answer : Option ℕ) : Type 0 where
    pub next : ℕ
    pub is : answer ≡ Some next
    pub caller : next < 16
    pub ready_next : ready next ≡ true
    pub near : (next ≡ c → ⊥) → ahead (one_past next) c < ahead i c

  found_at : (t : Bool) (i c : ℕ) (rest : Option ℕ) → ready i ≡ t → i < 16 → c < 16 → ready c ≡ true
      → ((i ≡ c → ⊥) → Found (one_past i) c rest) → Found i c (cond t (Some i) rest)
  found_at true i c rest e hi hc s more = record { next = i; is = refl; caller = hi; ready_next = e; near = nearer i c hi hc }
  found_at false i c rest e hi hc s more =
      let other : (i ≡ c → ⊥) = λ q. false≢true (sym e ∙ ap ready q ∙ s) in
      let f = more other in
      let closer = nearer i c hi hc other in
      record { next = f.next; is = f.is; caller = f.caller; ready_next = f.ready_next; near = λ m. let l = f.near m in omega arith }

  pub finds : (n i c : ℕ) → i < 16 → c < 16 → ready c ≡ true → ahead i c < n → Found i c (first_ready n ready i)
  unfolding first_ready
  finds zero i c hi hc s h = absurd (omega arith)
  finds (suc n) i c hi hc s h =
      found_at (ready i) i c (first_ready n ready (one_past i)) refl hi hc s
      (λ m. let l = nearer i c hi hc m in finds n (one_past i) c (past_below i) hc s (omega arith))

  -- ---- who is found is a caller who is ready
  pub record Ready (j : ℕ) : Type 0 where
    pub caller : j < 16
    pub is_ready : ready j ≡ true

  ready_at : (t : Bool) (i j : ℕ) (rest : Option ℕ) → ready i ≡ t → i < 16 → (rest ≡ Some j → Ready j) → cond t (Some i) rest ≡ Some j → Ready j
  ready_at true i j rest e hi more is = let same : i ≡ j = cc in record { caller = omega arith; is_ready = ap ready (sym same) ∙ e }
  ready_at false i j rest e hi more is = more is

  pub found_ready : (n i j : ℕ) → i < 16 → first_ready n ready i ≡ Some j → Ready j
  unfolding first_ready
  found_ready zero i j hi is = let none : false ≡ true = ap is_some is in absurd (false≢true none)
  found_ready (suc n) i j hi is =
      ready_at (ready i) i j (first_ready n ready (one_past i)) refl hi (found_ready n (one_past i) j (past_below i)) is

  -- where nobody is ready, nobody is found
  pub finds_none : ((c : ℕ) → c < 16 → ready c ≡ false) → (n i : ℕ) → i < 16 → first_ready n ready i ≡ None
  unfolding first_ready
  finds_none z zero i h = refl
  finds_none z (suc n) i h = rw (z i h) (finds_none z n (one_past i) (past_below i))

-- ---- the loop: after so many callers the search of those left answers as the whole does

pub record Going (ready : ℕ → Bool) (start caller counter : ℕ) : Type 0 where
  pub inside : caller < 16
  pub left : first_ready (16 - counter) ready caller ≡ first_ready 16 ready start

module _ (ready : ℕ → Bool) (start caller counter : ℕ) (g : Going ready start caller counter) where
  pub found_here : counter < 16 → true ≡ ready caller → Some caller ≡ first_ready 16 ready start
  unfolding first_ready
  found_here h s = here (16 - counter) (omega arith) ∙ g.left
    where
      here : (n : ℕ) → 0 < n → Some caller ≡ first_ready n ready caller
      here zero p = absurd (omega arith)
      here (suc n) p = rw (sym s) refl

  pub going_on : counter < 16 → false ≡ ready caller → Going ready start (one_past caller) (counter + 1)
  unfolding first_ready
  going_on h s = record { inside = past_below caller; left = sym (past (16 - counter) (16 - (counter + 1)) (omega arith)) ∙ g.left }
    where
      past : (n m : ℕ) → n ≡ m + 1 → first_ready n ready caller ≡ first_ready m ready (one_past caller)
      past zero m e = absurd (omega arith)
      past (suc n) m e = let same : n ≡ m = omega arith in rw (sym s, same) refl

  pub none_left : 16 ≤ counter → None ≡ first_ready 16 ready start
  unfolding first_ready
  none_left h = over (16 - counter) (omega arith) ∙ g.left
    where
      over : (n : ℕ) → n ≤ 0 → None ≡ first_ready n ready caller
      over zero p = refl
      over (suc n) p = absurd (omega arith)
