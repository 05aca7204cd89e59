-- The value of an ALU row is the manual's, for each instruction. Assumes nothing.
use mathlib.Core.Path.{◌≡◌, ap₂, sym, ◌∙◌}
use mathlib.Core.Logic.{⊎_elim}
use Prim.Native.Nat.{ℕ, ◌+◌, ◌*◌, ◌/◌, ◌%◌, ◌^◌, ◌<◌, ◌≤◌}
use native.Mathlib.Omega.{arith}
use lib.Pow.{mod-mod-pow, mod-pow-add, shr-shr}
use borrow.Author.Tests.{ne_eqb}
use Rattle.decode.specs.Manual as manual
use Rattle.decode.specs.Manual.{Major, number, bits, signed, immediate_i, Word}
use Rattle.interp.specs.Values.{second_operand, sum, shift_at, alu_value}
use Rattle.rv64i.specs.Manual.{low, Immediate, ADDI, SLTI, SLTIU, XORI, ORI, ANDI, immediate, Operation, ADD, SUB, SLT, SLTU, XOR, OR, AND, operation, ConstantShift, SLLI, SRLI, SRAI, constant_shift, shamt, Encoded7, IsImmediate, IsConstantShift, IsOperation, i_immediate}
use Rattle.rv64i.specs.Agreement.{most}
use Rattle.rv64i.proofs.Words.{lt_or_ge, minus_is, less_is, signed_right_is, signed_low, signed_high}

-- opcode number and funct7, as the values look at them
pub number_of : {m : Major} {inst : ℕ} → Word m inst → inst % 2 ^ 7 ≡ number m
number_of w = omega (arith, w.has)

pub funct7_of : {upper f inst : ℕ} → Encoded7 upper f inst → inst / 2 ^ 25 ≡ upper
funct7_of e = omega (arith, e.encoded.word.fits, e.funct7)

-- with an immediate
pub immediate-agrees : (i : Immediate) (inst a b imm : ℕ) → IsImmediate i inst → a < 2 ^ 64 → imm < 2 ^ 64
    → alu_value (manual.funct3 inst) inst a (second_operand inst b imm) ≡ (immediate i).gives a imm
unfolding alu_value sum low
immediate-agrees ADDI inst a b imm e ha hi = rw (e.funct3, number_of e.word)
immediate-agrees SLTI inst a b imm e ha hi = rw (e.funct3, number_of e.word, less_is a imm ha hi)
immediate-agrees SLTIU inst a b imm e ha hi = rw (e.funct3, number_of e.word)
immediate-agrees XORI inst a b imm e ha hi = rw (e.funct3, number_of e.word)
immediate-agrees ORI inst a b imm e ha hi = rw (e.funct3, number_of e.word)
immediate-agrees ANDI inst a b imm e ha hi = rw (e.funct3, number_of e.word)

-- with two registers
pub operation-agrees : (i : Operation) (inst a b imm : ℕ) → IsOperation i inst
    → a < 2 ^ 64 → b < 2 ^ 64 → alu_value (manual.funct3 inst) inst a (second_operand inst b imm) ≡ (operation i).gives a b
unfolding alu_value sum low
operation-agrees ADD inst a b imm e ha hb = rw (e.encoded.funct3, number_of e.encoded.word, funct7_of e)
operation-agrees SUB inst a b imm e ha hb = rw (e.encoded.funct3, number_of e.encoded.word, funct7_of e) (minus_is a b ha hb)
operation-agrees SLT inst a b imm e ha hb = rw (e.encoded.funct3, number_of e.encoded.word, less_is a b ha hb)
operation-agrees SLTU inst a b imm e ha hb = rw (e.encoded.funct3, number_of e.encoded.word)
operation-agrees XOR inst a b imm e ha hb = rw (e.encoded.funct3, number_of e.encoded.word)
operation-agrees OR inst a b imm e ha hb = rw (e.encoded.funct3, number_of e.encoded.word)
operation-agrees AND inst a b imm e ha hb = rw (e.encoded.funct3, number_of e.encoded.word)

-- ---- shifts by a constant

-- the low bits of a number of twelve, sign-extended, are its own
low_twelve : (v : ℕ) → v < 2 ^ 12 → low (signed 12 v) % 2 ^ 6 ≡ v % 2 ^ 6
unfolding low
low_twelve v h = ⊎_elim (λ l. rw (signed_low 12 v l) (omega arith)) (λ l. rw (signed_high 12 v l h) (omega arith)) (lt_or_ge v (2 ^ 11))

low_six : (t h q s : ℕ) → q < 2 ^ 4 → s < 2 ^ 1 → (t * 2 ^ 11 + h * 2 ^ 5 + q * 2 ^ 1 + s) % 2 ^ 6 ≡ h % 2 ^ 1 * 2 ^ 5 + (q * 2 ^ 1 + s)
low_six t h q s hq hs = omega arith

-- j + i bits of a word are j bits above i bits
cut : (w k j i : ℕ) → w / 2 ^ k % 2 ^ (j + i) ≡ w / 2 ^ (k + i) % 2 ^ j * 2 ^ i + w / 2 ^ k % 2 ^ i
cut w k j i = mod-pow-add (w / 2 ^ k) j i ∙ rw (shr-shr w k i)

-- the amount is the low six bits of the immediate
amount_of : (inst : ℕ) → low (immediate_i inst) % 2 ^ 6 ≡ shamt inst
unfolding immediate_i
amount_of inst =
    low_twelve _ (omega arith)
    ∙ low_six (bits inst 31 31) (bits inst 30 25) (bits inst 24 21) (bits inst 20 20) (omega arith) (omega arith)
    ∙ ap₂ (λ (x y : ℕ). x * 2 ^ 5 + y) (mod-mod-pow (inst / 2 ^ 25) 5 1) (sym (cut inst 20 4 1))
    ∙ sym (cut inst 20 1 5)

-- bit 25 is the amount's uppermost
srai_top : (inst : ℕ) → inst < 2 ^ 32 → bits inst 31 26 ≡ 0b010000 → shamt inst ≤ 31 → inst / 2 ^ 25 ≡ 0x20
srai_top inst f t m = sym (shr-shr inst 20 5) ∙ halved (inst / 2 ^ 20) (shr-shr inst 20 6 ∙ omega (arith, f, t)) m
  where
    halved : (q : ℕ) → q / 2 ^ 6 ≡ 0x10 → q % 2 ^ 6 ≤ 31 → q / 2 ^ 5 ≡ 0x20
    halved q e l = omega arith

pub constant_agrees : (i : ConstantShift) (inst a b : ℕ) → IsConstantShift i inst → shamt inst ≤ most i → a < 2 ^ 64
    → alu_value (manual.funct3 inst) inst a (second_operand inst b (i_immediate inst)) ≡ (constant_shift i).gives a (shamt inst)
unfolding alu_value shift_at
constant_agrees SLLI inst a b e m ha = rw (e.encoded.funct3, number_of e.encoded.word, amount_of inst)
constant_agrees SRLI inst a b e m ha =
    let not-alternate : inst / 2 ^ 25 ≡ 0x20 → ⊥ = λ t. omega (arith, t, e.upper_bits, e.encoded.word.fits) in
    rw (e.encoded.funct3, number_of e.encoded.word, ne_eqb (inst / 2 ^ 25) 0x20 not-alternate, amount_of inst)
constant_agrees SRAI inst a b e m ha =
    rw (e.encoded.funct3, number_of e.encoded.word, srai_top inst e.encoded.word.fits e.upper_bits m, amount_of inst)
    (signed_right_is a (shamt inst) ha)
