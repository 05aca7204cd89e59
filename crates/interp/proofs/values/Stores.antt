-- The word that a store's mask makes. Assumes nothing.
use Rattle.std.proofs.Common.{◌≡◌, ℕ, ◌+◌, ◌-◌, ◌*◌, ◌/◌, ◌%◌, ◌^◌, ◌<◌, ◌≤◌, min, sym, ap, ◌∙◌, ap₂, ⊎_elim, lt_of_lt_of_le, add-zero, mod-lt, mod-eq_of_lt, arith, pow_pos, pow_mono, shr_lt}
use native.Mathlib.Nat.{mul-mod_left, min-eq_left, min-eq_right}
use lib.Bits.{bit_and, bit_or, and_mask, and_block, or_block, or_zero_r, or_shifted, and_high}
use lib.Pow.{split, shl-shr, mod-pow-add, mod-mod-pow, ones_lt, ones_split, high_ones, shr_mod, low}
use Rattle.interp.specs.Values.{merge}
use Rattle.interp.proofs.values.Words.{lt_or_ge}

-- places past the word are dropped
shl-mod : (x j k : ℕ) → x * 2 ^ k % 2 ^ (j + k) ≡ x % 2 ^ j * 2 ^ k
shl-mod x j k =
    mod-pow-add (x * 2 ^ k) j k
    ∙ ap₂ (λ (u v : ℕ). u % 2 ^ j * 2 ^ k + v) (shl-shr x k) (mul-mod_left x (2 ^ k))
    ∙ add-zero (x % 2 ^ j * 2 ^ k)

-- w bits set, of which p are kept
ones_mod : (w p : ℕ) → (2 ^ w - 1) % 2 ^ p ≡ 2 ^ min w p - 1
ones_mod w p =
    ⊎_elim
    (λ h.
    let l : w ≤ p = omega arith in
    mod-eq_of_lt (lt_of_lt_of_le (ones_lt w) (pow_mono l)) ∙ ap (λ (n : ℕ). 2 ^ n - 1) (sym (min-eq_left l)))
    (λ h.
    let j = w - p in
    let e : w ≡ j + p = omega arith in
    ap (λ (n : ℕ). (2 ^ n - 1) % 2 ^ p) e ∙ ap (λ (n : ℕ). n % 2 ^ p) (ones_split j p) ∙ low (2 ^ j - 1) p (ones_lt p)
    ∙ ap (λ (n : ℕ). 2 ^ n - 1) (sym (min-eq_right h)))
    (lt_or_ge w p)

-- the bits from k on that both have
and-shl : (x y k : ℕ) → bit_and (x * 2 ^ k) (y * 2 ^ k) ≡ bit_and x y * 2 ^ k
and-shl x y k =
    ap₂ bit_and (sym (add-zero (x * 2 ^ k))) (sym (add-zero (y * 2 ^ k)))
    ∙ and_block k x y 0 0 (pow_pos k) (pow_pos k)
    ∙ add-zero (bit_and x y * 2 ^ k)

taken_part : (src j m k : ℕ) → bit_and (src * 2 ^ k % 2 ^ (j + m + k)) ((2 ^ m - 1) * 2 ^ k) ≡ src % 2 ^ m * 2 ^ k
taken_part src j m k =
    ap (λ (n : ℕ). bit_and n ((2 ^ m - 1) * 2 ^ k)) (shl-mod src (j + m) k)
    ∙ and-shl (src % 2 ^ (j + m)) (2 ^ m - 1) k
    ∙ ap (λ (n : ℕ). n * 2 ^ k) (and_mask (src % 2 ^ (j + m)) m ∙ mod-mod-pow src j m)

drop_middle : (x y c z : ℕ) → (x + y) * c + z - y * c ≡ x * c + z
drop_middle x y c z = omega arith

mask_not : (j m k : ℕ) → 2 ^ (j + m + k) - 1 - (2 ^ m - 1) * 2 ^ k ≡ (2 ^ j - 1) * 2 ^ m * 2 ^ k + (2 ^ k - 1)
mask_not j m k =
    ap (λ (n : ℕ). n - (2 ^ m - 1) * 2 ^ k) (ones_split (j + m) k ∙ ap (λ (n : ℕ). n * 2 ^ k + (2 ^ k - 1)) (ones_split j m))
    ∙ drop_middle ((2 ^ j - 1) * 2 ^ m) (2 ^ m - 1) (2 ^ k) (2 ^ k - 1)

kept_part : (old j m k : ℕ) → old < 2 ^ (j + m + k) → bit_and old (2 ^ (j + m + k) - 1 - (2 ^ m - 1) * 2 ^ k) ≡ old / 2 ^ k / 2 ^ m * 2 ^ m * 2 ^ k + old % 2 ^ k
kept_part old j m k h =
    ap₂ bit_and (sym (split old k)) (mask_not j m k)
    ∙ and_block k (old / 2 ^ k) ((2 ^ j - 1) * 2 ^ m) (old % 2 ^ k) (2 ^ k - 1) (mod-lt old (pow_pos k)) (ones_lt k)
    ∙ ap₂ (λ (x y : ℕ). x * 2 ^ k + y) top (and_mask (old % 2 ^ k) k ∙ mod-eq_of_lt (mod-lt old (pow_pos k)))
  where
    small : old / 2 ^ k < 2 ^ (j + m)
    small = shr_lt (j + m) k h

    top : bit_and (old / 2 ^ k) ((2 ^ j - 1) * 2 ^ m) ≡ old / 2 ^ k / 2 ^ m * 2 ^ m
    top = ap (bit_and (old / 2 ^ k)) (sym (high_ones j m)) ∙ and_high (old / 2 ^ k) j m ∙ ap (λ (n : ℕ). n * 2 ^ m) (shr_mod j m small)

joined : (h s l m k : ℕ) → s < 2 ^ m → l < 2 ^ k → bit_or (h * 2 ^ m * 2 ^ k + l) (s * 2 ^ k) ≡ (h * 2 ^ m + s) * 2 ^ k + l
joined h s l m k hs hl =
    ap (bit_or (h * 2 ^ m * 2 ^ k + l)) (sym (add-zero (s * 2 ^ k)))
    ∙ or_block k (h * 2 ^ m) s l 0 hl (pow_pos k)
    ∙ ap₂ (λ (x y : ℕ). x * 2 ^ k + y) (or_shifted h m s hs) (or_zero_r l)

-- the word that a mask of m places from k on makes, in a word of j + m + k
merged : (old src j m k : ℕ) → old < 2 ^ (j + m + k)
    → bit_or (bit_and old (2 ^ (j + m + k) - 1 - (2 ^ m - 1) * 2 ^ k)) (bit_and (src * 2 ^ k % 2 ^ (j + m + k)) ((2 ^ m - 1) * 2 ^ k)) ≡ merge old src k m
merged old src j m k h =
    ap₂ bit_or (kept_part old j m k h) (taken_part src j m k)
    ∙ joined (old / 2 ^ k / 2 ^ m) (src % 2 ^ m) (old % 2 ^ k) m k (mod-lt src (pow_pos m)) (mod-lt old (pow_pos k))

-- the same for a mask of w bits, shifted left by k in a word of p + k
pub masked : (old src w p k : ℕ) → old < 2 ^ (p + k)
    → bit_or (bit_and old (2 ^ (p + k) - 1 - (2 ^ w - 1) * 2 ^ k % 2 ^ (p + k))) (bit_and (src * 2 ^ k % 2 ^ (p + k)) ((2 ^ w - 1) * 2 ^ k % 2 ^ (p + k))) ≡ merge old src k (min w p)
masked old src w p k h =
    let m = min w p in
    let j = p - m in
    let e : p ≡ j + m = omega arith in
    let f : (2 ^ w - 1) * 2 ^ k % 2 ^ (p + k) ≡ (2 ^ m - 1) * 2 ^ k = shl-mod (2 ^ w - 1) p k ∙ ap (λ (n : ℕ). n * 2 ^ k) (ones_mod w p) in
    ap (λ (n : ℕ). bit_or (bit_and old (2 ^ (p + k) - 1 - n)) (bit_and (src * 2 ^ k % 2 ^ (p + k)) n)) f
    ∙ ap (λ (n : ℕ). bit_or (bit_and old (2 ^ (n + k) - 1 - (2 ^ m - 1) * 2 ^ k)) (bit_and (src * 2 ^ k % 2 ^ (n + k)) ((2 ^ m - 1) * 2 ^ k))) e
    ∙ merged old src j m k (rw (← e) h)
