-- The manual's words and integers, and the recorder's values on words. Assumes nothing.
use mathlib.Core.Path.{◌≡◌, refl, ap, sym, ◌∙◌}
use mathlib.Core.Bool.{Bool, true, false, not}
use mathlib.Core.Logic.{◌⊎◌, inl, inr, ⊎_elim}
use Prim.Native.Nat.{ℕ, zero, suc, ◌-◌, ◌^◌, ◌<◌, ◌≤◌}
use native.Mathlib.Nat.{mod-eq_of_lt}
use native.Mathlib.Omega.{arith}
use lib.Dec.{ltb, leb}
use lib.IntN.{ℤ, pos, negsuc, ◌-ℤ◌}
use lib.Signed.{lt_z, le_z, shr_z}
use borrow.Author.Tests.{ltb-true, ltb-false, lt-ltb, le-ltb, le-leb, lt-leb}
use Rattle.decode.specs.Manual.{signed}
use Rattle.interp.specs.Values as value
use Rattle.interp.specs.Values.{minus, signed_right}
use Rattle.interp.specs.Readings.{signed_word}
use Rattle.interp.proofs.Above.{readings}
use Rattle.rv64i.specs.Manual.{low, difference, arithmetic_right}
use Rattle.rv64i.proofs.Bounds.{signed_right_lt}

pub lt_or_ge : (a b : ℕ) → (a < b) ⊎ (b ≤ a)
lt_or_ge a b = by (ltb a b) refl
  where
    by : (t : Bool) → ltb a b ≡ t → (a < b) ⊎ (b ≤ a)
    by true e = inl (ltb-true a b e)
    by false e = inr (ltb-false a b e)

-- ---- signed numbers

difference_high : (a b : ℕ) → a < b → pos a -ℤ pos b ≡ negsuc (b - suc a)
difference_high a zero h = absurd (omega arith)
difference_high a (suc b) h = rw (lt-ltb a (suc b) h)

-- the reading of k bits, without and with the sign set
pub signed_low : (k x : ℕ) → x < 2 ^ (k - 1) → signed k x ≡ pos x
unfolding signed
signed_low k x l = rw (lt-ltb x (2 ^ (k - 1)) l)

pub signed_high : (k x : ℕ) → 2 ^ (k - 1) ≤ x → x < 2 ^ k → signed k x ≡ negsuc (2 ^ k - suc x)
unfolding signed
signed_high k x l u = rw (le-ltb x (2 ^ (k - 1)) l) (difference_high x (2 ^ k) u)

-- the manual's reading of a word is that of the values' claims
same_reading : (x : ℕ) → signed 64 x ≡ signed_word x
unfolding signed
same_reading x = refl

-- the low bits of a number are a word
pub low_lt : (z : ℤ) → low z < 2 ^ 64
unfolding low
low_lt (pos n) = omega arith
low_lt (negsuc n) = omega arith

-- the low bits of a word's signed number are the word
pub low_signed : (x : ℕ) → x < 2 ^ 64 → low (signed 64 x) ≡ x
unfolding low
low_signed x h =
    ⊎_elim
    (λ l. ap low (signed_low 64 x l) ∙ mod-eq_of_lt h)
    (λ l. ap low (signed_high 64 x l h) ∙ omega arith)
    (lt_or_ge x (2 ^ 63))

-- ---- the difference

difference_low : (a b : ℕ) → b ≤ a → pos a -ℤ pos b ≡ pos (a - b)
difference_low a zero h = ap pos (omega arith)
difference_low a (suc b) h = rw (le-ltb a (suc b) h)

pub minus_is : (a b : ℕ) → a < 2 ^ 64 → b < 2 ^ 64 → minus a b ≡ difference a b
unfolding low
minus_is a b ha hb =
    ⊎_elim
    (λ l. sym (ap low (difference_high a b l) ∙ omega arith))
    (λ l. sym (ap low (difference_low a b l) ∙ omega arith))
    (lt_or_ge a b)

-- ---- the shift that keeps the sign

pub signed_right_is : (x k : ℕ) → x < 2 ^ 64 → signed_right x k ≡ arithmetic_right x k
signed_right_is x k h =
    sym (low_signed (signed_right x k) (signed_right_lt x k h))
    ∙ ap low (same_reading (signed_right x k) ∙ readings.floor x k h ∙ ap (λ (z : ℤ). shr_z z (2 ^ k)) (sym (same_reading x)))

-- ---- the orders

pub less_is : (a b : ℕ) → a < 2 ^ 64 → b < 2 ^ 64 → value.less a b ≡ lt_z (signed 64 a) (signed 64 b)
less_is a b ha hb = rw (same_reading a, same_reading b) (readings.order a b ha hb)

-- a test that fails is the other order
pub not_ltb : (a b : ℕ) → not (ltb a b) ≡ leb b a
not_ltb a b = ⊎_elim (λ h. rw (lt-ltb a b h) (sym (lt-leb b a h))) (λ h. rw (le-ltb a b h) (sym (le-leb b a h))) (lt_or_ge a b)

pub not_lt_z : (a b : ℤ) → not (lt_z a b) ≡ le_z b a
not_lt_z (pos a) (pos b) = not_ltb a b
not_lt_z (pos a) (negsuc b) = refl
not_lt_z (negsuc a) (pos b) = refl
not_lt_z (negsuc a) (negsuc b) = not_ltb b a
