-- The claims on a turn and on lists of adds and turns. Assumes nothing.
use Rattle.std.proofs.Common.{◌≡◌, ℕ, ◌+◌, ◌-◌, ◌^◌, ◌≤◌, ◌<◌, Bool, true, false, cond, ◌&&◌, eqb, eq-eqb, List, [], ◌∷◌, ◌++◌, length, get_or, set, replicate, None, refl, sym, ap, ◌∙◌, arith, ltb, lt-ltb, ltb-true, ltb-false, length-set}
use Rattle.std.proofs.lemmas.List.{get_or-replicate}
use lib.ListN.{get_or-eq_default}
use borrow.Author.Tests.{le-leb, ne_eqb}
use mathlib.Core.Bool.{and-false}
use native.Mathlib.Decide.{ℕ_discrete}
use lib.Seq.{get_or-set_same, get_or-set_other}
use Rattle.std.specs.Prelude.{is_some, option_map, option_to_list, sum}
use Rattle.std.specs.List.{list_all}
use Rattle.std.proofs.lemmas.List.Sums.{sum_by-append}
use Rattle.dispatch.specs.declared.caller.Caller.{Caller}
use Rattle.dispatch.specs.declared.Dispatcher.{Dispatcher}
use Rattle.dispatch.specs.declared.Grant.{Grant}
use Rattle.dispatch.specs.Dispatch.{wanting, is_ready, fresh, caller_at, wanted_of, raised, ready_at, next_ready, grant_to, granted, served}
use Rattle.dispatch.specs.Calls.{Call, add, turn, after, last, grants_of, grants, total_granted, adds_of, adds_for}
use Rattle.dispatch.specs.Claims.{Turn, is_slice, Lists, DispatchLaws}
use Rattle.dispatch.proofs.Search.{past_below, ahead_below, finds, finds_none}
use Rattle.dispatch.proofs.Ways.{add_ways, turn_ways, grants_next, slice_some, slice}
use Rattle.dispatch.proofs.Grants.{got, got_append, got_at}
use Rattle.dispatch.proofs.Fair.{Circular, keeps_all, within_sixteen}

-- ---- the invariant
record Good (d : Dispatcher) : Type 0 where
  places : length d.callers ≡ 16
  position : d.position < 16
  limit : (c : ℕ) → wanted_of d c ≤ 2 ^ 32

zeros : (budget c : ℕ) → wanted_of (fresh budget) c ≡ 0
zeros budget c = go (ltb c 16) refl
  where
    go : (t : Bool) → ltb c 16 ≡ t → wanted_of (fresh budget) c ≡ 0
    go true e = ap (λ (x : Caller). x.wanted) (get_or-replicate 16 c (wanting 0) (wanting 0) (ltb-true _ _ e))
    go false e = ap (λ (x : Caller). x.wanted) (get_or-eq_default (replicate 16 (wanting 0)) (wanting 0) {n = c} (ltb-false _ _ e))

start_good : (budget : ℕ) → Good (fresh budget)
start_good budget = record { places = refl; position = omega arith; limit = λ c. let z = zeros budget c in omega arith }

after_sized : (d : Dispatcher) (k : Call) → length (after d k).callers ≡ length d.callers
unfolding after raised served
after_sized d (add i n) = add_ways (λ _ d₁. length d₁.callers ≡ length d.callers) d i n (λ _. length-set d.callers i _) refl
after_sized d turn = turn_ways (λ _ d₁. length d₁.callers ≡ length d.callers) d (λ j _. length-set d.callers j _) refl

-- what caller c wants where caller i wants n now
module _ (P : ℕ → Type 0) (d : Dispatcher) (i n c : ℕ) (g : Good d) (h : i < 16) (here : c ≡ i → P n) (there : (c ≡ i → ⊥) → P (wanted_of d c)) where
  now_wanted : P (get_or (set d.callers i (wanting n)) c (wanting 0)).wanted
  now_wanted = go (ℕ_discrete c i)
    where
      go : Dec (c ≡ i) → P (get_or (set d.callers i (wanting n)) c (wanting 0)).wanted
      go (yes e) = rw (e, get_or-set_same d.callers i (wanting n) (wanting 0) (rw g.places h)) (here e)
      go (no other) = rw (get_or-set_other d.callers i c (wanting n) (wanting 0) other) (there other)

keeps : (d : Dispatcher) (k : Call) → Good d → Good (after d k)
unfolding after raised served
keeps d (add i n) g =
    add_ways (λ _ d₁. Good d₁) d i n
    (λ f.
    record {
      places = length-set d.callers _ _ ∙ g.places;
      position = g.position;
      limit = λ c. now_wanted (λ x. x ≤ 2 ^ 32) d i (wanted_of d i + n) c g f.caller (λ _. f.sum) (λ _. g.limit c);
    })
    g
keeps d turn g =
    turn_ways (λ _ d₁. Good d₁) d
    (λ j n.
    record {
      places = length-set d.callers _ _ ∙ g.places;
      position = past_below j;
      limit = λ c. now_wanted (λ x. x ≤ 2 ^ 32) d j _ c g n.caller (λ _. let l = g.limit j in omega arith) (λ _. g.limit c);
    })
    g

-- ---- the budget

-- a call grants what the budget falls by
call_conserves : (d : Dispatcher) (k : Call) → total_granted (grants_of d k) + (after d k).budget ≡ d.budget
unfolding after grants_of raised served
call_conserves d (add i n) = add_ways (λ _ d₁. 0 + d₁.budget ≡ d.budget) d i n (λ _. omega arith) (omega arith)
call_conserves d turn =
    turn_ways (λ o d₁. total_granted (option_to_list o) + d₁.budget ≡ d.budget) d
    (λ j n. let s = slice d j n in omega (arith, s.budget))
    (omega arith)

pub conserves : (d : Dispatcher) (ks : List Call) → total_granted (grants d ks) + (last d ks).budget ≡ d.budget
unfolding grants last
conserves d [] = omega arith
conserves d (k ∷ ks) =
    let joined = sum_by-append (λ (g : Grant). g.cycles) (grants_of d k) (grants (after d k) ks) in
    omega (arith, call_conserves d k, conserves (after d k) ks, joined)

-- ---- what is asked for

-- a call grants caller c so much, and leaves it wanting so much, as it wanted and added
call_asks : (d : Dispatcher) (k : Call) (c : ℕ) → Good d → got c (grants_of d k) + wanted_of (after d k) c ≡ wanted_of d c + sum (adds_of c d k)
unfolding after grants_of adds_of raised served
call_asks d (add i n) c g =
    add_ways (λ ok d₁. 0 + wanted_of d₁ c ≡ wanted_of d c + sum (cond (eqb i c && ok) (n ∷ []) [])) d i n
    (λ f.
    now_wanted (λ x. 0 + x ≡ wanted_of d c + sum (cond (eqb i c && true) (n ∷ []) [])) d i (wanted_of d i + n) c g f.caller
    (λ e. rw (eq-eqb _ _ (sym e), e) (omega arith))
    (λ other. rw (ne_eqb _ _ (λ e. other (sym e))) (omega arith)))
    (rw and-false (omega arith))
call_asks d turn c g =
    turn_ways (λ o d₁. got c (option_to_list o) + wanted_of d₁ c ≡ wanted_of d c + 0) d
    (λ j n.
    let most = (slice d j n).wanted in
    now_wanted (λ x. got c (grant_to d j ∷ []) + x ≡ wanted_of d c + 0) d j (wanted_of d j - (grant_to d j).cycles) c g n.caller
    (λ e. let one = got_at c (grant_to d j) true (eq-eqb _ _ (sym e)) in let same = ap (wanted_of d) e in omega (arith, one, most))
    (λ other. let one = got_at c (grant_to d j) false (ne_eqb _ _ (λ e. other (sym e))) in omega (arith, one)))
    (omega arith)

asks : (d : Dispatcher) (ks : List Call) (c : ℕ) → Good d → got c (grants d ks) + wanted_of (last d ks) c ≡ wanted_of d c + sum (adds_for c d ks)
unfolding grants last adds_for
asks d [] c g = omega arith
asks d (k ∷ ks) c g =
    let d₁ = after d k in
    let sums = sum_by-append (λ n. n) (adds_of c d k) (adds_for c d₁ ks) in
    omega (arith, got_append c (grants_of d k) (grants d₁ ks), call_asks d k c g, asks d₁ ks c (keeps d k g), sums)

-- ---- every grant is a slice
call_slices : (d : Dispatcher) (k : Call) (gs : List Grant) → list_all is_slice gs ≡ true → list_all is_slice (grants_of d k ++ gs) ≡ true
unfolding grants_of
call_slices d (add i n) gs e = e
call_slices d turn gs e =
    turn_ways (λ o _. list_all is_slice (option_to_list o ++ gs) ≡ true) d
    (λ j n. let s = slice d j n in rw (lt-ltb _ _ s.caller, lt-ltb _ _ s.some, le-leb _ _ s.most) e)
    e

slices : (d : Dispatcher) (ks : List Call) → list_all is_slice (grants d ks) ≡ true
unfolding grants
slices d [] = refl
slices d (k ∷ ks) = call_slices d k (grants (after d k) ks) (slices (after d k) ks)

-- ---- the 16-turn bound
abbrev Waits : Dispatcher → ℕ → Type 0
Waits d c = 0 < wanted_of d c

abbrev Open : Dispatcher → Type 0
Open d = 0 < d.budget

ready : (d : Dispatcher) (c : ℕ) → Waits d c → Open d → ready_at d c ≡ true
unfolding is_ready
ready d c w o = rw (lt-ltb _ _ w, lt-ltb _ _ o) refl

some : (d : Dispatcher) (c : ℕ) → ready_at d c ≡ true → 0 < (grant_to d c).cycles
some d c e = slice_some (caller_at d c) d.budget e

add_waits : (d : Dispatcher) (i n c : ℕ) → Good d → Waits d c → Waits (after d (add i n)) c
unfolding after raised
add_waits d i n c g w =
    add_ways (λ _ d₁. Waits d₁ c) d i n
    (λ f. now_wanted (λ x. 0 < x) d i (wanted_of d i + n) c g f.caller (λ e. let same = ap (wanted_of d) e in omega arith) (λ _. w))
    w

circular : Circular Good Waits Open
unfolding after raised served
circular =
    record {
      keeps = keeps;
      placed = λ d g. g.position;
      ready = ready;
      some = some;
      opens = λ d k o. let fell = call_conserves d k in omega arith;
      add_stays = λ d i n. add_ways (λ _ d₁. d₁.position ≡ d.position) d i n (λ _. refl) refl;
      add_waits = add_waits;
      moves = λ d j. refl;
      others = λ d j c g h n w. now_wanted (λ x. 0 < x) d j _ c g h (λ e. absurd (n (sym e))) (λ _. w);
    }

-- ---- one turn
turn_law : (d : Dispatcher) → d.position < 16 → Turn d
unfolding next_ready is_ready
turn_law d p =
    let none : ((c : ℕ) → c < 16 → ready_at d c ≡ false) → granted d ≡ None =
    λ h. grants_next d p ∙ ap (option_map (grant_to d)) (finds_none (ready_at d) h 16 d.position p) in
    record {
      grants = λ c hc w o.
          let f = finds (ready_at d) 16 d.position c p hc (ready d c w o) (ahead_below d.position c) in
          ap is_some (grants_next d p ∙ ap (option_map (grant_to d)) f.is);
      spent = λ z. none (λ c _. rw z (and-false _));
      nobody = λ z. none (λ c hc. rw (z c hc) refl);
    }

-- ---- the whole
lists_law : (budget : ℕ) (ks : List Call) → Lists budget ks (last (fresh budget) ks)
lists_law budget ks =
    let g = keeps_all Good Waits Open circular (fresh budget) ks (start_good budget) in
    record {
      conserved = conserves (fresh budget) ks;
      asked = λ c hc. let all = asks (fresh budget) ks c (start_good budget) in let z = zeros budget c in omega arith;
      slices = slices (fresh budget) ks;
      position = g.position;
      limit = g.limit;
      fair = λ c hc w js t. within_sixteen Good Waits Open circular (last (fresh budget) ks) c g hc w js (omega arith);
    }

pub claims : DispatchLaws
claims = record { sized = after_sized; one = turn_law; all = lists_law }
