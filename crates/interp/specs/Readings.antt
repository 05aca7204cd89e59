-- What is claimed of the values beyond their text. The record is the contract of `signed_readings` of src/values.rt.
-- Assumes nothing: these are definitions.
use Rattle.std.specs.Prelude.{◌≡◌, ℕ, zero, suc, ◌%◌, ◌^◌, ◌<◌, cond, ℤ, pos, negsuc, ◌+ℤ◌, ◌-ℤ◌, int_div, int_lt, nat_lt}
use Rattle.std.specs.Int.Signed.{shr_z}
use Rattle.interp.specs.Values.{signed_right, less, shift, stage_value, quarter_on}

-- the signed number whose two's complement of 64 bits is x
abbrev pub signed_word : ℕ → ℤ
signed_word x = cond (nat_lt x (2 ^ 63)) (pos x) (pos x -ℤ pos (2 ^ 64))

-- a negative number becomes 0
abbrev pub clamp : ℤ → ℕ
clamp (pos n) = n
clamp (negsuc n) = 0

-- the accumulator after the stages 0 to k, each on the value of the one before
unfoldable pub stages_value : ℕ → ℕ → ℕ → ℕ → ℕ → ℕ
stages_value zero funct3 raw a b = stage_value 0 funct3 raw a b
stages_value (suc k) funct3 raw a b = stage_value (suc k) funct3 raw (stages_value k funct3 raw a b) b

-- the three forms of interp.rs that read a word as i64, said on integers; and the stages in turn
pub record Signed : Type 0 where
  -- the order of the signed numbers, for branches and signed set-less-than
  pub order : (a b : ℕ) → a < 2 ^ 64 → b < 2 ^ 64 → less a b ≡ int_lt (signed_word a) (signed_word b)
  -- the signed number by 2^k, rounded down
  pub floor : (x k : ℕ) → x < 2 ^ 64 → signed_word (signed_right x k) ≡ shr_z (signed_word x) (2 ^ k)
  -- the signed number by 4, rounded towards zero
  pub quarter : (mp imm : ℕ) → mp < 2 ^ 61 → imm < 2 ^ 64 → quarter_on mp imm ≡ clamp (pos mp +ℤ int_div (signed_word imm) (pos 4))
  -- stages 0 to k are one shift by b's low k + 1 bits, so that stages 0 to 5 shift by b mod 64
  pub stages : (k funct3 raw a b : ℕ) → k < 6 → stages_value k funct3 raw a b ≡ shift funct3 raw a (b % 2 ^ suc k)
