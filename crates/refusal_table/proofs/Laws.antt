-- Tables of refusals, line by line. Assumes nothing.
use Rattle.std.proofs.Common.{◌≡◌, ℕ, Bool, true, false, cond, ◌≢◌, refl}

-- where no line of a table is met, its first is not, and none of the rest
pub unmet : (met : Bool) (number rest : ℕ) → number ≢ 0 → cond met number rest ≡ 0 → (met ≡ false) × (rest ≡ 0)
unmet true number rest p e = absurd (p e)
unmet false number rest p e = (refl, e)
