-- What is claimed of a turn, and of every list of adds and turns from a fresh dispatcher, refused ones included (02, T-06). The
-- function `dispatch_laws` of src/lib.rt has the whole for its contract. Assumes nothing: these are definitions.
use Rattle.std.specs.Prelude.{ℕ, ◌+◌, ◌^◌, ◌≤◌, ◌<◌, ◌≡◌, Bool, true, ◌&&◌, None, is_some, List, [], ◌∷◌, ◌++◌, length, nat_lt, nat_le, sum}
use Rattle.std.specs.List.{list_all}
use Rattle.dispatch.specs.declared.Dispatcher.{Dispatcher}
use Rattle.dispatch.specs.declared.Grant.{Grant}
use Rattle.dispatch.specs.Dispatch.{fresh, wanted_of, granted}
use Rattle.dispatch.specs.Calls.{Call, turn, after, last, turns, grants, total_granted, slices_to, adds_for}

-- of one turn, at any circle position below 16
pub record Turn (d : Dispatcher) : Type 0 where
  -- where a caller waits and budget is left, it grants a slice
  pub grants : (c : ℕ) → c < 16 → 0 < wanted_of d c → 0 < d.budget → is_some (granted d) ≡ true
  -- where no budget is left or nobody waits, it grants nothing
  pub spent : d.budget ≡ 0 → granted d ≡ None
  pub nobody : ((c : ℕ) → c < 16 → wanted_of d c ≡ 0) → granted d ≡ None

-- from d on, a waiting caller is granted within 16 turns while the budget lasts: `js` and one more turn are any calls that end in
-- their 16th turn, and before that one there is budget left
abbrev pub Fair : Dispatcher → Type 0
Fair d =
    (c : ℕ) → c < 16 → 0 < wanted_of d c → (js : List Call) → turns js ≡ 15 → 0 < (last d js).budget
    → 0 < sum (slices_to c (grants d (js ++ (turn ∷ []))))

-- a grant is a slice to one of the callers: above 0, and at most 4,096
abbrev pub is_slice : Grant → Bool
is_slice g = nat_lt g.caller 16 && nat_lt 0 g.cycles && nat_le g.cycles 4096

-- of a list of calls on the fresh dispatcher of an opening budget, which leaves d
pub record Lists (budget : ℕ) (ks : List Call) (d : Dispatcher) : Type 0 where
  -- the total granted plus the budget left is the opening budget
  pub conserved : total_granted (grants (fresh budget) ks) + d.budget ≡ budget
  -- what a caller was granted and still wants is what its accepted adds come to
  pub asked : (c : ℕ) → c < 16 → sum (slices_to c (grants (fresh budget) ks)) + wanted_of d c ≡ sum (adds_for c (fresh budget) ks)
  pub slices : list_all is_slice (grants (fresh budget) ks) ≡ true
  -- the circle position is a caller, and nobody wants more than 2^32
  pub position : d.position < 16
  pub limit : (c : ℕ) → wanted_of d c ≤ 2 ^ 32
  pub fair : Fair d

-- the contract of `dispatch_laws`
pub record DispatchLaws : Type 0 where
  -- no call changes how many callers there are
  pub sized : (d : Dispatcher) (k : Call) → length (after d k).callers ≡ length d.callers
  pub one : (d : Dispatcher) → d.position < 16 → Turn d
  pub all : (budget : ℕ) (ks : List Call) → Lists budget ks (last (fresh budget) ks)
