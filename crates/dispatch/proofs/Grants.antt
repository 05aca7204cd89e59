-- Sums of grants and of adds. Assumes nothing.
use Rattle.std.proofs.Common.{◌≡◌, ℕ, ◌+◌, Bool, true, false, cond, eqb, List, [], ◌∷◌, ◌++◌, refl, ap, ◌∙◌, arith}
use Rattle.std.specs.Prelude.{map, sum}
use Rattle.std.specs.List.{filter}
use Rattle.std.proofs.lemmas.List.{map-append}
use Rattle.std.proofs.lemmas.List.Elements.{filter-append}
use Rattle.std.proofs.lemmas.List.Sums.{sum_by-append}
use Rattle.dispatch.specs.declared.Grant.{Grant}
use Rattle.dispatch.specs.Calls.{slices_to}

-- what caller c is granted in all
abbrev pub got : ℕ → List Grant → ℕ
got c gs = sum (slices_to c gs)

pub got_append : (c : ℕ) (gs hs : List Grant) → got c (gs ++ hs) ≡ got c gs + got c hs
got_append c gs hs =
    ap (λ l. sum (map (λ g. g.cycles) l)) (filter-append (λ g. eqb g.caller c) gs hs)
    ∙ ap sum (map-append (λ g. g.cycles) (filter (λ g. eqb g.caller c) gs) (filter (λ g. eqb g.caller c) hs))
    ∙ sum_by-append (λ n. n) (slices_to c gs) (slices_to c hs)

-- of one grant, if it is to c its cycles
pub got_at : (c : ℕ) (g : Grant) (t : Bool) → eqb g.caller c ≡ t → got c (g ∷ []) ≡ cond t g.cycles 0
got_at c g true e = rw e (omega arith)
got_at c g false e = rw e refl
