-- What the layer above may use of a store's width. Assumes nothing.
use Rattle.std.proofs.Common.{ℕ, ◌≤◌, Bool, true, false, cond, eqb, arith}
use Rattle.interp.specs.Values.{store_width}

cond_le : (b : Bool) {x y n : ℕ} → x ≤ n → y ≤ n → cond b x y ≤ n
cond_le true p q = p
cond_le false p q = q

pub width_at_most : (funct3 : ℕ) → store_width funct3 ≤ 8
unfolding store_width
width_at_most f = cond_le (eqb f 0) (omega arith) (cond_le (eqb f 1) (omega arith) (cond_le (eqb f 2) (omega arith) (omega arith)))
