-- The 16-turn bound, of a dispatcher whose adds and turns obey the laws of `Circular`: of a caller it knows only when it is ready,
-- and that it gets a slice then. Assumes nothing.
use Rattle.std.proofs.Common.{◌≡◌, ℕ, ◌≤◌, ◌<◌, Bool, true, false, eqb, List, [], ◌∷◌, ◌++◌, Some, refl, ap, ◌∙◌, arith}
use borrow.Author.Tests.{eqb-false}
use Rattle.std.specs.Prelude.{sum, option_map, option_to_list}
use Rattle.dispatch.specs.declared.Dispatcher.{Dispatcher}
use Rattle.dispatch.specs.declared.Grant.{Grant}
use Rattle.dispatch.specs.Circle.{one_past}
use Rattle.dispatch.specs.Dispatch.{ready_at, next_ready, grant_to, granted, served, moved}
use Rattle.dispatch.specs.Calls.{Call, add, turn, after, last, turns, grants_of, grants, slices_to}
use Rattle.dispatch.proofs.Search.{ahead, ahead_below, Found, finds}
use Rattle.dispatch.proofs.Ways.{grants_next}
use Rattle.dispatch.proofs.Grants.{got, got_append, got_at}

-- ---- the laws of one call that the bound rests on

-- `Good` is the invariant, `Waits d c` that caller c waits, and `Open d` that d still grants
pub record Circular (Good : Dispatcher → Type 0) (Waits : Dispatcher → ℕ → Type 0) (Open : Dispatcher → Type 0) : Type 0 where
  pub keeps : (d : Dispatcher) (k : Call) → Good d → Good (after d k)
  pub placed : (d : Dispatcher) → Good d → d.position < 16
  -- a caller who waits is ready while d is open, who is ready gets a slice, and no call opens it
  pub ready : (d : Dispatcher) (c : ℕ) → Waits d c → Open d → ready_at d c ≡ true
  pub some : (d : Dispatcher) (c : ℕ) → ready_at d c ≡ true → 0 < (grant_to d c).cycles
  pub opens : (d : Dispatcher) (k : Call) → Open (after d k) → Open d
  -- an add leaves the circle and those who wait
  pub add_stays : (d : Dispatcher) (i n : ℕ) → (after d (add i n)).position ≡ d.position
  pub add_waits : (d : Dispatcher) (i n c : ℕ) → Good d → Waits d c → Waits (after d (add i n)) c
  -- a grant moves the circle on one past its caller, and leaves the others waiting
  pub moves : (d : Dispatcher) (j : ℕ) → (served d (grant_to d j)).position ≡ one_past j
  pub others : (d : Dispatcher) (j c : ℕ) → Good d → j < 16 → (j ≡ c → ⊥) → Waits d c → Waits (served d (grant_to d j)) c

module _ (Good : Dispatcher → Type 0) (Waits : Dispatcher → ℕ → Type 0) (Open : Dispatcher → Type 0) (law : Circular Good Waits Open) where
  pub keeps_all : (d : Dispatcher) (ks : List Call) → Good d → Good (last d ks)
  unfolding last
  keeps_all d [] g = g
  keeps_all d (k ∷ ks) g = keeps_all (after d k) ks (law.keeps d k g)

  -- a list of calls opens nothing
  opens_all : (d : Dispatcher) (ks : List Call) → Open (last d ks) → Open d
  unfolding last
  opens_all d [] o = o
  opens_all d (k ∷ ks) o = law.opens d k (opens_all (after d k) ks o)

  -- where caller c waits, a turn grants somebody, and moves the circle nearer to c if it is not c
  record Helps (d : Dispatcher) (c : ℕ) : Type 0 where
    j : ℕ
    caller : j < 16
    some : 0 < (grant_to d j).cycles
    gives : grants_of d turn ≡ grant_to d j ∷ []
    leaves : after d turn ≡ served d (grant_to d j)
    near : (j ≡ c → ⊥) → ahead (one_past j) c < ahead d.position c

  helps : (d : Dispatcher) (c : ℕ) → Good d → c < 16 → Waits d c → Open d → Helps d c
  unfolding next_ready grants_of after moved
  helps d c g hc w o =
      let f : Found (ready_at d) d.position c (next_ready d) =
      finds (ready_at d) 16 d.position c (law.placed d g) hc (law.ready d c w o) (ahead_below d.position c) in
      let is : granted d ≡ Some (grant_to d f.next) = grants_next d (law.placed d g) ∙ ap (option_map (grant_to d)) f.is in
      record {
        j = f.next;
        caller = f.caller;
        some = law.some d f.next f.ready_next;
        gives = ap option_to_list is;
        leaves = ap (λ a. moved a d) is;
        near = f.near;
      }

  -- a turn grants c, or leaves it waiting and nearer; then the rest of the calls serve it
  turn_helps : (d : Dispatcher) (c : ℕ) (rest : List Grant) → Good d → c < 16 → Waits d c → Open d
      → (Waits (after d turn) c → ahead (after d turn).position c < ahead d.position c → 0 < got c rest)
      → 0 < got c (grants_of d turn ++ rest)
  turn_helps d c rest g hc w o more = go (eqb h.j c) refl
    where
      h : Helps d c
      h = helps d c g hc w o

      go : (t : Bool) → eqb h.j c ≡ t → 0 < got c (grants_of d turn ++ rest)
      go true e =
          let one : got c (grants_of d turn) ≡ (grant_to d h.j).cycles = ap (got c) h.gives ∙ got_at c (grant_to d h.j) true e in
          omega (arith, got_append c (grants_of d turn) rest, h.some)
      go false e =
          let n = eqb-false _ _ e in
          let later : 0 < got c rest =
          more (rw h.leaves (law.others d h.j c g h.caller n w)) (rw (h.leaves, law.moves d h.j) (h.near n)) in
          omega (arith, got_append c (grants_of d turn) rest)

  -- a caller who waits is served where the calls have as many turns before their last one as there are callers ahead of it
  served_within : (js : List Call) (d : Dispatcher) (c : ℕ) → Good d → c < 16 → Waits d c → Open (last d js) → ahead d.position c ≤ turns js
      → 0 < got c (grants d (js ++ (turn ∷ [])))
  unfolding last turns grants
  served_within [] d c g hc w o h = turn_helps d c [] g hc w o (λ _ l. absurd (omega arith))
  served_within (add i n ∷ js) d c g hc w o h =
      let d₁ = after d (add i n) in
      let later = served_within js d₁ c (law.keeps d (add i n) g) hc (law.add_waits d i n c g w) o (rw (law.add_stays d i n) h) in
      omega (arith, got_append c (grants_of d (add i n)) (grants d₁ (js ++ (turn ∷ []))))
  served_within (turn ∷ js) d c g hc w o h =
      let d₁ = after d turn in
      turn_helps d c (grants d₁ (js ++ (turn ∷ []))) g hc w (law.opens d turn (opens_all d₁ js o))
      (λ w₁ l. served_within js d₁ c (law.keeps d turn g) hc w₁ o (omega arith))

  -- the 16-turn bound
  pub within_sixteen : (d : Dispatcher) (c : ℕ) → Good d → c < 16 → Waits d c → (js : List Call) → 15 ≤ turns js → Open (last d js)
      → 0 < sum (slices_to c (grants d (js ++ (turn ∷ []))))
  within_sixteen d c g hc w js t o = let a = ahead_below d.position c in served_within js d c g hc w o (omega arith)
