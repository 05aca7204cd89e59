-- A stage's amount; two shifts are one, and so are the stages in turn. Assumes nothing.
use Rattle.std.proofs.Common.{◌≡◌, ℕ, zero, suc, ◌+◌, ◌-◌, ◌*◌, ◌/◌, ◌%◌, ◌^◌, ◌<◌, ◌≤◌, Bool, true, false, eqb, sym, refl, ap, ◌∙◌, ⊎_elim, lt_of_le_of_lt, mul-le-mul_right, mul_assoc, add_comm, div-add-mod', one-add, arith, pow_mono, pow-add, shr-shr, le-ltb, lt-ltb}
use native.Mathlib.Nat.{mul-add-mod_self_right}
use lib.Pow.{shr_le, mod-pow-add}
use Rattle.interp.specs.Values.{left, right, signed_right, alternate, shift_at, shift, stage_amount, stage_value}
use Rattle.interp.specs.Readings.{stages_value}
use Rattle.interp.proofs.values.Words.{lt_or_ge}

-- ---- a stage's amount

-- a bit at place k, for k below 6
bit_lt : (k d : ℕ) → k < 6 → d < 2 → d * 2 ^ k < 64
bit_lt k d hk hd =
    let h : d * 2 ^ k ≤ 1 * 2 ^ k = mul-le-mul_right (2 ^ k) (omega arith) in
    let p : 2 ^ k ≤ 2 ^ 5 = pow_mono {i = k} {j = 5} (omega arith) in
    omega arith

pub amount_lt : (k b : ℕ) → stage_amount k b < 64
unfolding stage_amount
amount_lt k b =
    ⊎_elim
    (λ h. rw (lt-ltb k 6 h) (bit_lt k (b / 2 ^ k % 2) h (omega arith)))
    (λ h. rw (le-ltb k 6 h) (omega arith))
    (lt_or_ge k 6)

-- ---- two shifts

-- a factor may be reduced first
mod_mul_mod : (n c : ℕ) → n % 2 ^ 64 * c % 2 ^ 64 ≡ n * c % 2 ^ 64
mod_mul_mod n c =
    let q = n / 2 ^ 64 in
    let e : n ≡ q * 2 ^ 64 + n % 2 ^ 64 = sym (div-add-mod' n (2 ^ 64)) in
    let f : n * c ≡ q * c * 2 ^ 64 + n % 2 ^ 64 * c = ap (λ (x : ℕ). x * c) e ∙ spread q (n % 2 ^ 64) c in
    sym (ap (λ (x : ℕ). x % 2 ^ 64) f ∙ mul-add-mod_self_right (q * c) (2 ^ 64) (n % 2 ^ 64 * c))
  where
    spread : (q r c : ℕ) → (q * 2 ^ 64 + r) * c ≡ q * c * 2 ^ 64 + r * c
    spread q r c = omega arith

left-left : (x i j : ℕ) → left (left x i) j ≡ left x (i + j)
left-left x i j =
    mod_mul_mod (x * 2 ^ i) (2 ^ j) ∙ ap (λ (n : ℕ). n % 2 ^ 64) (mul_assoc x (2 ^ i) (2 ^ j) ∙ ap (λ (n : ℕ). x * n) (sym (pow-add 2 i j)))

right-right : (x i j : ℕ) → right (right x i) j ≡ right x (i + j)
right-right x i j = shr-shr x i j

-- of a word that is not negative, and of one that is
pub below : (x k : ℕ) → x < 2 ^ 63 → signed_right x k ≡ x / 2 ^ k
unfolding signed_right
below x k h = rw (lt-ltb x (2 ^ 63) h)

pub above : (x k : ℕ) → 2 ^ 63 ≤ x → signed_right x k ≡ 2 ^ 64 - 1 - (2 ^ 64 - 1 - x) / 2 ^ k
unfolding signed_right
above x k h = rw (le-ltb x (2 ^ 63) h)

signed-signed : (x i j : ℕ) → signed_right (signed_right x i) j ≡ signed_right x (i + j)
signed-signed x i j =
    ⊎_elim
    (λ h.
    ap (λ (n : ℕ). signed_right n j) (below x i h) ∙ below (x / 2 ^ i) j (lt_of_le_of_lt (shr_le x i) h)
    ∙ shr-shr x i j ∙ sym (below x (i + j) h))
    (λ h.
    let y = 2 ^ 64 - 1 - x in
    let z = y / 2 ^ i in
    let l : z ≤ y = shr_le y i in
    let e : 2 ^ 64 - 1 - (2 ^ 64 - 1 - z) ≡ z = omega arith in
    ap (λ (n : ℕ). signed_right n j) (above x i h) ∙ above (2 ^ 64 - 1 - z) j (omega arith)
    ∙ ap (λ (n : ℕ). 2 ^ 64 - 1 - n / 2 ^ j) e ∙ ap (λ (n : ℕ). 2 ^ 64 - 1 - n) (shr-shr y i j) ∙ sym (above x (i + j) h))
    (lt_or_ge x (2 ^ 63))

-- of any funct3 and any raw
shift_twice : (l r t : Bool) (x i j : ℕ) → shift_at l r t (shift_at l r t x i) j ≡ shift_at l r t x (i + j)
unfolding shift_at
shift_twice true r t x i j = left-left x i j
shift_twice false true true x i j = signed-signed x i j
shift_twice false true false x i j = right-right x i j
shift_twice false false t x i j = refl

-- ---- the stages in turn

-- one more bit
grown : (k b : ℕ) → k < 6 → b % 2 ^ k + stage_amount k b ≡ b % 2 ^ suc k
unfolding stage_amount
grown k b h =
    rw (lt-ltb k 6 h) (add_comm (b % 2 ^ k) (b / 2 ^ k % 2 * 2 ^ k) ∙ sym (mod-pow-add b 1 k) ∙ ap (λ (n : ℕ). b % 2 ^ n) (one-add k))

-- a stage takes the shift by the k low bits of b to that by one more
pub one_stage : (k f raw a b : ℕ) → k < 6 → stage_value k f raw (shift f raw a (b % 2 ^ k)) b ≡ shift f raw a (b % 2 ^ suc k)
one_stage k f raw a b h = shift_twice (eqb f 1) (eqb f 5) (alternate raw) a (b % 2 ^ k) (stage_amount k b) ∙ ap (shift f raw a) (grown k b h)

-- the first stage takes the operand itself
first-stage : (f raw a b : ℕ) → stage_value 0 f raw a b ≡ shift f raw a (b % 2 ^ 1)
first-stage f raw a b = ap (shift f raw a) (let e : b % 2 ^ 0 + stage_amount 0 b ≡ b % 2 ^ 1 = grown 0 b (omega arith) in omega arith)

-- the stages 0 to k
pub in_turn : (k f raw a b : ℕ) → k < 6 → stages_value k f raw a b ≡ shift f raw a (b % 2 ^ suc k)
unfolding stages_value
in_turn zero f raw a b h = first-stage f raw a b
in_turn (suc k) f raw a b h = ap (λ (acc : ℕ). stage_value (suc k) f raw acc b) (in_turn k f raw a b (omega arith)) ∙ one_stage (suc k) f raw a b h
