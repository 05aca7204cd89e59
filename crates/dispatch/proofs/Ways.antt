-- The ways that an add and a turn go. Assumes nothing.
use Rattle.std.proofs.Common.{◌≡◌, ℕ, ◌+◌, ◌^◌, ◌≤◌, ◌<◌, Bool, true, false, cond, ◌||◌, eqb, leb, ltb, Some, None, zero, suc, refl, sym, ap, ◌∙◌, arith, ltb-true, ltb-false}
use borrow.Author.Tests.{leb-false, lt-leb}
use mathlib.Core.Path.{subst}
use mathlib.Core.Bool.{false≢true, and-eq-true_iff}
use lib.Dec.{eqb-suc-zero}
use Rattle.std.specs.Prelude.{Option, Result, Ok, Err, is_some, option_map}
use Rattle.std.specs.Result.{result_unwrap_or}
use Rattle.std.proofs.lemmas.Bool.{or_parts}
use Rattle.refusal_table.proofs.Laws.{unmet}
use Rattle.dispatch.specs.declared.caller.Caller.{Caller}
use Rattle.dispatch.specs.declared.Dispatcher.{Dispatcher}
use Rattle.dispatch.specs.declared.Grant.{Grant}
use Rattle.dispatch.specs.declared.Refusal.{Refusal}
use Rattle.dispatch.specs.declared.Refusal.TheVariants.{NoCaller, TooMuchWanted}
use Rattle.dispatch.specs.Dispatch.{is_ready, slice_of, caller_at, wanted_of, dispatch_refusal_number, add_number, raised, after_add, Told, turn_told_of, turn_of, turn_number, ready_at, next_ready, grant_to, granted, served, moved, after_turn}
use Rattle.dispatch.proofs.Search.{found_ready}

-- ---- an add

-- what an accepted add has
pub record Fits (d : Dispatcher) (i n : ℕ) : Type 0 where
  pub caller : i < 16
  pub sum : wanted_of d i + n ≤ 2 ^ 32

pub fits : (d : Dispatcher) (i n : ℕ) → add_number d i n ≡ 0 → Fits d i n
unfolding add_number
fits d i n e =
    let eleven = unmet (leb 16 i || leb 16 d.position) 11 _ (λ z. omega arith) e in
    let twelve = unmet (ltb (2 ^ 32) (wanted_of d i + n)) 12 _ (λ z. omega arith) eleven.1 in
    record { caller = leb-false _ _ (or_parts _ _ eleven.0).0; sum = ltb-false _ _ twelve.0 }

refusal_some : (why : Refusal) → eqb (dispatch_refusal_number why) 0 ≡ false
refusal_some NoCaller = refl
refusal_some TooMuchWanted = refl

-- what it leaves
module _ (d : Dispatcher) (i n : ℕ) where
  pub accepted_leaves : add_number d i n ≡ 0 → raised d i n ≡ after_add d i n
  unfolding after_add
  accepted_leaves e = rw e refl

  pub refused_leaves : (why : Refusal) → dispatch_refusal_number why ≡ add_number d i n → d ≡ after_add d i n
  unfolding after_add
  refused_leaves why e = let some : eqb (add_number d i n) 0 ≡ false = ap (λ m. eqb m 0) (sym e) ∙ refusal_some why in rw some refl

-- P of whether an add is accepted, and of what it leaves
module _ (P : Bool → Dispatcher → Type 0) (d : Dispatcher) (i n : ℕ) (accepted : Fits d i n → P true (raised d i n)) (refused : P false d) where
  add_way : (number : ℕ) → add_number d i n ≡ number → P (eqb number 0) (cond (eqb number 0) (raised d i n) d)
  add_way zero e = accepted (fits d i n e)
  add_way (suc number) e = rw (eqb-suc-zero number) refused

  pub add_ways : P (eqb (add_number d i n) 0) (after_add d i n)
  unfolding after_add
  add_ways = add_way (add_number d i n) refl

-- ---- a turn

-- caller j is the next
pub record Next (d : Dispatcher) (j : ℕ) : Type 0 where
  pub is : next_ready d ≡ Some j
  pub caller : j < 16
  pub ready : ready_at d j ≡ true

pub next : (d : Dispatcher) (j : ℕ) → d.position < 16 → next_ready d ≡ Some j → Next d j
unfolding next_ready
next d j h e = let found = found_ready (ready_at d) 16 d.position j h e in record { is = e; caller = found.caller; ready = found.is_ready }

-- what it grants, at a circle position below 16
module _ (d : Dispatcher) (h : d.position < 16) where
  pub not_refused : turn_number d ≡ 0
  unfolding turn_number
  not_refused = rw (lt-leb _ _ h) refl

  pub grants_next : granted d ≡ option_map (grant_to d) (next_ready d)
  unfolding granted
  grants_next = rw not_refused refl

-- P of what a turn grants and leaves
module _ (P : Option Grant → Dispatcher → Type 0) (d : Dispatcher)
    (grants : (j : ℕ) → Next d j → P (Some (grant_to d j)) (served d (grant_to d j))) (nothing : P None d) where
  turn_way : (answer : Option ℕ) → d.position < 16 → next_ready d ≡ answer → P (option_map (grant_to d) answer) (moved (option_map (grant_to d) answer) d)
  unfolding moved
  turn_way None h e = nothing
  turn_way (Some j) h e = grants j (next d j h e)

  turn_at : (t : Bool) → leb 16 d.position ≡ t → P (granted d) (moved (granted d) d)
  unfolding granted turn_number moved
  turn_at true e = rw e nothing
  turn_at false e = rw e (turn_way (next_ready d) (leb-false _ _ e) refl)

  pub turn_ways : P (granted d) (after_turn d)
  turn_ways = turn_at (leb 16 d.position) refl

-- ---- a grant

-- a grant is a slice: some cycles to one of the callers, no more than it wants and than budget is left
pub record Slice (d : Dispatcher) (g : Grant) : Type 0 where
  pub caller : g.caller < 16
  pub some : 0 < g.cycles
  pub most : g.cycles ≤ 4096
  pub wanted : g.cycles ≤ wanted_of d g.caller
  pub budget : g.cycles ≤ d.budget

-- a caller that is ready wants any, budget is left, and so its slice is above 0
ready_has : (caller : Caller) (budget : ℕ) → is_ready caller budget ≡ true → (0 < caller.wanted) × (0 < budget)
unfolding is_ready
ready_has caller budget e =
    let both = (and-eq-true_iff (ltb 0 caller.wanted) (ltb 0 budget)).0 e in (ltb-true _ _ both.0, ltb-true _ _ both.1)

pub slice_some : (caller : Caller) (budget : ℕ) → is_ready caller budget ≡ true → 0 < slice_of caller budget
unfolding slice_of
slice_some caller budget e = let both = ready_has caller budget e in omega (arith, both.0, both.1)

pub slice : (d : Dispatcher) (j : ℕ) → Next d j → Slice d (grant_to d j)
unfolding slice_of
slice d j n =
    record { caller = n.caller; some = slice_some (caller_at d j) d.budget n.ready; most = omega arith; wanted = omega arith; budget = omega arith }

pub granted_slice : (d : Dispatcher) (g : Grant) → granted d ≡ Some g → Slice d g
granted_slice d g =
    turn_ways (λ o _. o ≡ Some g → Slice d g) d
    (λ j n e. let same : grant_to d j ≡ g = cc in subst (Slice d) same (slice d j n))
    (λ e. let none : false ≡ true = ap is_some e in absurd (false≢true none))

-- the grant that a turn's outcome tells is the one that it makes
unwrapped : (outcome : Result (Option Grant) Refusal) → result_unwrap_or outcome None ≡ (turn_told_of outcome).grant
unwrapped (Ok grant) = refl
unwrapped (Err why) = refl

pub told_granted : (d : Dispatcher) (outcome : Result (Option Grant) Refusal) → turn_told_of outcome ≡ turn_of d
    → granted d ≡ result_unwrap_or outcome None
told_granted d outcome told = sym (unwrapped outcome ∙ ap (λ (t : Told). t.grant) told)

pub moves : (d : Dispatcher) (grant : Option Grant) → granted d ≡ grant → moved grant d ≡ after_turn d
moves d grant e = ap (λ o. moved o d) (sym e)
