-- What a private function of src/lib.rt answers. Assumes nothing: these are definitions.
use Rattle.std.specs.Prelude.{ℕ, ◌+◌, Bool, true, false, ◌&&◌, List, [], ◌∷◌, drop, eqb}
use Rattle.expand.specs.Expand.{stages}

-- the rows begin with those due
unfoldable pub begins_with : List ℕ → List ℕ → Bool
begins_with [] rows = true
begins_with (d ∷ due) [] = false
begins_with (d ∷ due) (v ∷ rows) = eqb v d && begins_with due rows

-- behind row i stand stages 1 to 5 of the word v
abbrev pub stages_after : List ℕ → ℕ → ℕ → Bool
stages_after rows i v = begins_with (stages 5 1 v) (drop (i + 1) rows)
