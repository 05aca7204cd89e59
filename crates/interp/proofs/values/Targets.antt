-- A target is a row, where there is one. Assumes nothing.
use Rattle.std.proofs.Common.{ℕ, zero, suc, ◌%◌, ◌<◌, mod-lt, arith, ne_eqb}
use Rattle.interp.specs.Values.{row_count}

pub row_count_pos : (rows : ℕ) → 0 < row_count rows
unfolding row_count
row_count_pos zero = omega arith
row_count_pos (suc n) = rw (ne_eqb (suc n) 0 (omega arith)) (omega arith)

pub target_lt : (to rows : ℕ) → 0 < rows → to % row_count rows < rows
unfolding row_count
target_lt to rows h = rw (ne_eqb rows 0 (omega arith)) (mod-lt to h)
