-- Each value is a word where its operands are. Assumes nothing.
use mathlib.Core.Bool.{Bool, true, false, cond, ◌&&◌}
use Prim.Native.Nat.{ℕ, ◌+◌, ◌-◌, ◌*◌, ◌%◌, ◌^◌, ◌<◌, min}
use mathlib.Core.Path.{◌≡◌}
use native.Mathlib.Nat.{mod-lt, lt_of_le_of_lt}
use native.Mathlib.Omega.{arith}
use lib.Arith.{digits_lt}
use lib.Bits.{and_lt, or_lt, xor_lt}
use lib.Dec.{eqb, ltb}
use lib.Pow.{pow_pos, pow-add, shr_lt, shr_le}
use Rattle.expand.specs.declared.MicroPc.{MicroPc}
use Rattle.interp.specs.Values.{signed_right, less, alternate, register_form, second_operand, shift_at, sum, alu_value, stage_amount, stage_value, load_value, store_width, merge, store_value, upper_value}

pub cond_lt : (b : Bool) {x y n : ℕ} → x < n → y < n → cond b x y < n
cond_lt true p q = p
cond_lt false p q = q

pub signed_right_lt : (x k : ℕ) → x < 2 ^ 64 → signed_right x k < 2 ^ 64
unfolding signed_right
signed_right_lt x k h = cond_lt (ltb x (2 ^ 63)) (lt_of_le_of_lt (shr_le x k) h) (omega arith)

shift_lt : (l r t : Bool) (x k : ℕ) → x < 2 ^ 64 → shift_at l r t x k < 2 ^ 64
unfolding shift_at
shift_lt l r t x k h =
    cond_lt l (omega arith) (cond_lt r (cond_lt t (signed_right_lt x k h) (lt_of_le_of_lt (shr_le x k) h)) h)

pub stage_lt : (k f raw acc b : ℕ) → acc < 2 ^ 64 → stage_value k f raw acc b < 2 ^ 64
stage_lt k f raw acc b h = shift_lt (eqb f 1) (eqb f 5) (alternate raw) acc (stage_amount k b) h

two_lt : (f raw a b : ℕ) → a < 2 ^ 64 → b < 2 ^ 64 → alu_value f raw a b < 2 ^ 64
unfolding alu_value sum
two_lt f raw a b ha hb =
    cond_lt (eqb f 0) (cond_lt (register_form raw && alternate raw) (omega arith) (omega arith))
    (cond_lt (eqb f 1) (shift_lt true false (alternate raw) a (b % 64) ha)
    (cond_lt (eqb f 2) (cond_lt (less a b) (omega arith) (omega arith))
    (cond_lt (eqb f 3) (cond_lt (ltb a b) (omega arith) (omega arith))
    (cond_lt (eqb f 4) (xor_lt 64 a b ha hb)
    (cond_lt (eqb f 5) (shift_lt false true (alternate raw) a (b % 64) ha)
    (cond_lt (eqb f 6) (or_lt 64 a b ha hb)
    (cond_lt (eqb f 7) (and_lt 64 a b ha hb) (omega arith))))))))

pub alu_lt : (f raw a b imm : ℕ) → a < 2 ^ 64 → b < 2 ^ 64 → imm < 2 ^ 64 → alu_value f raw a (second_operand raw b imm) < 2 ^ 64
alu_lt f raw a b imm ha hb hi = two_lt f raw a (second_operand raw b imm) ha (cond_lt (register_form raw) hb hi)

pub load_lt : (f w off : ℕ) → w < 2 ^ 64 → load_value f w off < 2 ^ 64
unfolding load_value
load_lt f w off h =
    cond_lt (eqb f 0) (omega arith) (cond_lt (eqb f 4) (omega arith) (cond_lt (eqb f 1) (omega arith) (cond_lt (eqb f 5) (omega arith) h)))

-- of a word of j + m + k bits
merge_lt : (old src j m k : ℕ) → old < 2 ^ (j + m + k) → merge old src k m < 2 ^ (j + m + k)
merge_lt old src j m k h =
    rw (pow-add 2 (j + m) k, pow-add 2 j m)
    (digits_lt (digits_lt (shr_lt j m (shr_lt (j + m) k h)) (mod-lt src (pow_pos m))) (mod-lt old (pow_pos k)))

pub store_lt : (f old src off : ℕ) → old < 2 ^ 64 → store_value f old src off < 2 ^ 64
unfolding store_value
store_lt f old src off h =
    let k = 8 * (off % 8) in
    let m = 8 * min (store_width f) (8 - off % 8) in
    let e : 64 - k - m + m + k ≡ 64 = omega arith in
    rw e at (merge_lt old src (64 - k - m) m k (rw e h))

pub upper_lt : (raw imm : ℕ) (mp : MicroPc) → imm < 2 ^ 64 → upper_value raw imm mp < 2 ^ 64
unfolding upper_value
upper_lt raw imm mp h = cond_lt (eqb (raw % 2 ^ 7) 0x17) (omega arith) h
