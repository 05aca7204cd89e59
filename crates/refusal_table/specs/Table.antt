-- Tables of refusals, as 01 and 02 have them: lines in the order in which they are tested. Assumes nothing: these are definitions.
use Rattle.std.specs.Prelude.{ℕ, Bool, cond, List, [], ◌∷◌}

-- a line of a table: the number returned, and whether its condition is met
pub record Line : Type 0 where
  pub number : ℕ
  pub met : Bool

-- the number n is returned where b is true
abbrev pub line : ℕ → Bool → Line
line n b = record { number = n; met = b }

-- the number of the first line that is met; 0, accepted, where none is
abbrev pub first_met : List Line → ℕ
first_met [] = 0
first_met (l ∷ lines) = cond l.met l.number (first_met lines)
