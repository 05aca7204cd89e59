-- The claims on cursors driven by grants, from demand 3 and from what fits being accepted. Assumes nothing.
use Rattle.std.proofs.Common.{◌≡◌, ℕ, ◌+◌, ◌^◌, ◌≤◌, Bool, true, false, cond, eqb, List, [], ◌∷◌, sym, ap, ◌∙◌, arith}
use Rattle.std.specs.Prelude.{map, sum}
use Rattle.std.specs.List.{filter}
use Rattle.std.proofs.lemmas.List.Sums.{sum_by-cons}
use Rattle.interp.specs.Machine.{start_of}
use Rattle.interp.specs.Calls.{Call as CursorCall, total}
use Rattle.interp.specs.Laws.{RowsAccepted, buffers_suffice}
use Rattle.interp.proofs.Above.{laws, demand}
use Rattle.dispatch.specs.declared.Grant.{Grant}
use Rattle.dispatch.specs.Dispatch.{fresh}
use Rattle.dispatch.specs.Calls.{Call, grants, total_granted, slices_to}
use Rattle.dispatch.specs.Driven.{slices, Driven, SameRun, DrivenLaws}
use Rattle.dispatch.proofs.Laws.{conserves}

-- a caller's slices are no more than all that is granted
share : (c : ℕ) (gs : List Grant) → sum (slices_to c gs) ≤ total_granted gs
share c [] = omega arith
share c (g ∷ gs) = go (eqb g.caller c) (share c gs) (sum_by-cons (λ (h : Grant). h.cycles) g gs)
  where
    go : (t : Bool) → sum (slices_to c gs) ≤ total_granted gs → total_granted (g ∷ gs) ≡ g.cycles + total_granted gs
        → sum (map (λ h. h.cycles) (cond t (g ∷ filter (λ h. eqb h.caller c) gs) (filter (λ h. eqb h.caller c) gs))) ≤ total_granted (g ∷ gs)
    go true rest all = let one = sum_by-cons (λ n. n) g.cycles (slices_to c gs) in omega (arith, one, rest, all)
    go false rest all = omega (arith, rest, all)

few : (c b : ℕ) (ks : List Call) → b ≤ 2 ^ 62 → sum (slices c b ks) ≤ 2 ^ 62
few c b ks h = omega (arith, share c (grants (fresh b) ks), conserves (fresh b) ks)

accepted : (lengths : List ℕ) (rows input : List ℕ) (calls : List CursorCall) → Driven lengths calls → RowsAccepted rows
    → buffers_suffice calls ≡ true → sum lengths ≤ 2 ^ 62 → total rows (start_of input) calls ≡ sum lengths
accepted lengths rows input calls d none room h =
    let all = ap sum d.amounts in
    laws.all_accepted rows input calls none d.only_segments room (omega (arith, all)) ∙ all

same : (ms ns : List ℕ) (rows input : List ℕ) (xs ys : List CursorCall) → Driven ms xs → Driven ns ys → RowsAccepted rows
    → buffers_suffice xs ≡ true → buffers_suffice ys ≡ true → sum ms ≤ 2 ^ 62 → sum ms ≡ sum ns → SameRun rows input xs ys
same ms ns rows input xs ys dx dy none rx ry h e =
    let p = demand.prefixes rows input xs ys dx.only_segments dy.only_segments in
    let totals = accepted ms rows input xs dx none rx h ∙ e ∙ sym (accepted ns rows input ys dy none ry (omega arith)) in
    record { same_log = p.same_log totals; same_cursor = p.same_cursor totals }

pub driven_claims : DrivenLaws
driven_claims =
    record {
      consistent = λ c b ks rows input calls d.
          record { replays = demand.replays rows input calls; reads = demand.reads rows input calls; ends = demand.ends rows input calls };
      prefixes = λ c a b js ks rows input xs ys dx dy. demand.prefixes rows input xs ys dx.only_segments dy.only_segments;
      few = few;
      accepted = λ c b ks. accepted (slices c b ks);
      same = λ c a b js ks. same (slices c a js) (slices c b ks);
    }
