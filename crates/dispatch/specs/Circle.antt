-- The circle of the sixteen callers (02, T-06). It knows of a caller only whether it is ready. Assumes nothing: these are
-- definitions.
use Rattle.std.specs.Prelude.{ℕ, zero, suc, ◌+◌, ◌%◌, Bool, cond, Option, Some, None}

-- one past caller i, in circle order
abbrev pub one_past : ℕ → ℕ
one_past i = (i + 1) % 16

-- the first of n callers from caller i on, in circle order, who is ready
unfoldable pub first_ready : ℕ → (ℕ → Bool) → ℕ → Option ℕ
first_ready zero ready i = None
first_ready (suc n) ready i = cond (ready i) (Some i) (first_ready n ready (one_past i))
