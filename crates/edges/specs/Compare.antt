-- What the comparing functions answer. Assumes nothing: these are definitions.
use Rattle.std.specs.Option.{option_or}
use Rattle.std.specs.Prelude.{ℕ, ◌+◌, cond, Option, Some, None, List, [], ◌∷◌, length, get_or, eqb, ltb}

-- the first place from i on that does not hold what `want` has there, or `rest` past it; `found` is what stands from i on
unfoldable pub differ_from : ℕ → List ℕ → ℕ → List ℕ → ℕ
differ_from i want rest [] = i
differ_from i want rest (v ∷ found) = cond (eqb v (get_or want i rest)) (differ_from (i + 1) want rest found) i

-- the first such place of `found`; none, where that is its end
abbrev pub differ_place : List ℕ → ℕ → List ℕ → Option ℕ
differ_place want rest found =
    let at = differ_from 0 want rest found in
    cond (ltb at (length found)) (Some at) None

-- the same, or the end of `found` where `want` goes on
abbrev pub wrong_place : List ℕ → ℕ → List ℕ → Option ℕ
wrong_place want rest found =
    option_or (differ_place want rest found) (cond (ltb (length found) (length want)) (Some (length found)) None)
