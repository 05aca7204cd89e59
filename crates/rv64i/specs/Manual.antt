-- RV64I as the RISC-V Unprivileged ISA Manual has it, for 01's agreeing list, SLT and SLTI: its chapters on the base integer
-- instruction sets and its instruction set listings. No copy was at hand, so the words in quotation marks are from memory
-- (docs/DECISIONS.md). Fields and immediates are in the decoder's specs/Manual.antt. Nothing here knows rows, records or
-- the source. Assumes nothing: these are definitions.
use Rattle.std.specs.Prelude.{◌≡◌, ℕ, zero, suc, ◌+◌, ◌-◌, ◌*◌, ◌/◌, ◌%◌, ◌^◌, Bool, cond, not, List, get_or, set, eqb, ltb, leb, ℤ, pos, negsuc, ◌+ℤ◌, ◌-ℤ◌}
use Rattle.std.specs.Int.Bits.{bit_and, bit_or, bit_xor}
use Rattle.std.specs.Int.Signed.{lt_z, le_z, shr_z}
use Rattle.decode.specs.Manual as field
use Rattle.decode.specs.Manual.{Major, OP, OP_IMM, LUI, LOAD, STORE, BRANCH, Word, rd, rs1, rs2, bits, signed, immediate_i, immediate_s, immediate_u}

-- ---- the state

-- the registers x1 to x31, of XLEN = 64 bits, and the memory: bytes, of which 01 has 2,048
pub record State : Type 0 where
  pub x : List ℕ
  pub memory : List ℕ

-- x[r]: "register x0 is hardwired with all bits equal to 0"
unfoldable pub reg : ℕ → State → ℕ
reg zero s = 0
reg (suc r) s = get_or s.x r 0

-- v goes to x[r]; a write to x0 does nothing
unfoldable pub put : ℕ → ℕ → State → State
put zero v s = s
put (suc r) v s = record { x = set s.x r v; memory = s.memory }

-- ---- words and integers

-- the low XLEN bits of an integer, in two's complement; of an immediate: sign-extended
unfoldable pub low : ℤ → ℕ
low (pos n) = n % 2 ^ 64
low (negsuc n) = 2 ^ 64 - 1 - n % 2 ^ 64

-- a sum: "overflows are ignored and the low XLEN bits of results are written"
abbrev pub sum : ℕ → ℕ → ℕ
sum a b = low (pos a +ℤ pos b)

-- a difference, likewise
abbrev pub difference : ℕ → ℕ → ℕ
difference a b = low (pos a -ℤ pos b)

-- an unsigned comparison, "writing 1 to rd if rs1 < rs2, 0 otherwise"
abbrev pub below : ℕ → ℕ → ℕ
below a b = cond (ltb a b) 1 0

-- a shift by k places: "zeros are shifted into the lower bits"
abbrev pub left : ℕ → ℕ → ℕ
left a k = a * 2 ^ k % 2 ^ 64

-- "zeros are shifted into the upper bits"
abbrev pub right : ℕ → ℕ → ℕ
right a k = a / 2 ^ k

-- "the original sign bit is copied into the vacated upper bits": the signed number by 2^k, rounded down
abbrev pub arithmetic_right : ℕ → ℕ → ℕ
arithmetic_right a k = low (shr_z (signed 64 a) (2 ^ k))

-- "only the low 6 bits of rs2 are considered for the shift amount"
abbrev pub by_register : (ℕ → ℕ → ℕ) → ℕ → ℕ → ℕ
by_register by a b = by a (b % 2 ^ 6)

-- "unequal"
abbrev pub unequal : ℕ → ℕ → Bool
unequal a b = not (eqb a b)

-- "less than", "using signed comparison"
abbrev pub signed_less : ℕ → ℕ → Bool
signed_less a b = lt_z (signed 64 a) (signed 64 b)

-- a signed comparison, "writing 1 to rd if rs1 < rs2, 0 otherwise"
abbrev pub signed_below : ℕ → ℕ → ℕ
signed_below a b = cond (signed_less a b) 1 0

-- "greater than or equal to", "using signed comparison"
abbrev pub signed_not_less : ℕ → ℕ → Bool
signed_not_less a b = le_z (signed 64 b) (signed 64 a)

-- "greater than or equal to", unsigned
abbrev pub not_less : ℕ → ℕ → Bool
not_less a b = leb b a

-- ---- the instructions, a line each: what tells it from others of its opcode, and what it gives

-- a line of the listings with funct3
pub record Entry (A : Type 0) : Type 0 where
  pub funct3 : ℕ
  pub gives : A

-- a line with the upper bits of the word, too: funct7, or those above a shift amount
pub record UpperEntry (A : Type 0) : Type 0 where
  pub upper : ℕ
  pub funct3 : ℕ
  pub gives : A

-- an instruction's funct3 and what it gives
abbrev pub entry : {A : Type 0} → ℕ → A → Entry A
entry funct3 gives = record { funct3 = funct3; gives = gives }

-- its upper bits, funct3 and what it gives
abbrev pub upper_entry : {A : Type 0} → ℕ → ℕ → A → UpperEntry A
upper_entry upper funct3 gives = record { upper = upper; funct3 = funct3; gives = gives }

-- integer register-immediate instructions
pub data Immediate : Type 0 where
  ADDI SLTI SLTIU XORI ORI ANDI : Immediate

-- what goes to rd, of x[rs1] and the sign-extended immediate
abbrev pub immediate : Immediate → Entry (ℕ → ℕ → ℕ)
immediate ADDI = entry 0b000 sum
immediate SLTI = entry 0b010 signed_below
immediate SLTIU = entry 0b011 below
immediate XORI = entry 0b100 bit_xor
immediate ORI = entry 0b110 bit_or
immediate ANDI = entry 0b111 bit_and

-- shifts by a constant
pub data ConstantShift : Type 0 where
  SLLI SRLI SRAI : ConstantShift

-- what goes to rd, of x[rs1] and the shift amount
abbrev pub constant_shift : ConstantShift → UpperEntry (ℕ → ℕ → ℕ)
constant_shift SLLI = upper_entry 0b000000 0b001 left
constant_shift SRLI = upper_entry 0b000000 0b101 right
constant_shift SRAI = upper_entry 0b010000 0b101 arithmetic_right

-- integer register-register operations
pub data Operation : Type 0 where
  ADD SUB SLT SLTU XOR OR AND : Operation

-- what goes to rd, of x[rs1] and x[rs2]
abbrev pub operation : Operation → UpperEntry (ℕ → ℕ → ℕ)
operation ADD = upper_entry 0b0000000 0b000 sum
operation SUB = upper_entry 0b0100000 0b000 difference
operation SLT = upper_entry 0b0000000 0b010 signed_below
operation SLTU = upper_entry 0b0000000 0b011 below
operation XOR = upper_entry 0b0000000 0b100 bit_xor
operation OR = upper_entry 0b0000000 0b110 bit_or
operation AND = upper_entry 0b0000000 0b111 bit_and

-- the shifts among them
pub data Shift : Type 0 where
  SLL SRL SRA : Shift

-- what goes to rd, of x[rs1] and x[rs2]
abbrev pub shift : Shift → UpperEntry (ℕ → ℕ → ℕ)
shift SLL = upper_entry 0b0000000 0b001 (by_register left)
shift SRL = upper_entry 0b0000000 0b101 (by_register right)
shift SRA = upper_entry 0b0100000 0b101 (by_register arithmetic_right)

-- conditional branches
pub data Branch : Type 0 where
  BEQ BNE BLT BGE BLTU BGEU : Branch

-- whether it is taken, of x[rs1] and x[rs2]
abbrev pub branch : Branch → Entry (ℕ → ℕ → Bool)
branch BEQ = entry 0b000 eqb
branch BNE = entry 0b001 unequal
branch BLT = entry 0b100 signed_less
branch BGE = entry 0b101 signed_not_less
branch BLTU = entry 0b110 ltb
branch BGEU = entry 0b111 not_less

-- loads
pub data Load : Type 0 where
  LBU LHU LD : Load

-- how many bytes of memory go to rd, zero-extended
abbrev pub load : Load → Entry ℕ
load LBU = entry 0b100 1
load LHU = entry 0b101 2
load LD = entry 0b011 8

-- stores
pub data Store : Type 0 where
  SB SH SW SD : Store

-- how many low bytes of x[rs2] go to memory
abbrev pub store : Store → Entry ℕ
store SB = entry 0b000 1
store SH = entry 0b001 2
store SW = entry 0b010 4
store SD = entry 0b011 8

-- ---- encodings: the 32-bit words that the listings give an instruction

-- a word of an opcode with a funct3
pub record Encoded (m : Major) (f inst : ℕ) : Type 0 where
  pub word : Word m inst
  pub funct3 : field.funct3 inst ≡ f

-- R-type: with a funct7, too
pub record Encoded7 (upper f inst : ℕ) : Type 0 where
  pub encoded : Encoded OP f inst
  pub funct7 : field.funct7 inst ≡ upper

-- a shift by a constant: with the six bits above the shift amount, too
pub record Encoded6 (upper f inst : ℕ) : Type 0 where
  pub encoded : Encoded OP_IMM f inst
  pub upper_bits : bits inst 31 26 ≡ upper

-- "the shift amount is encoded in the lower 6 bits of the I-immediate field for RV64I"
abbrev pub shamt : ℕ → ℕ
shamt inst = bits inst 25 20

-- inst is a word of the register-immediate instruction i
abbrev pub IsImmediate : Immediate → ℕ → Type 0
IsImmediate i inst = Encoded OP_IMM (immediate i).funct3 inst

-- of the shift by a constant i
abbrev pub IsConstantShift : ConstantShift → ℕ → Type 0
IsConstantShift i inst = Encoded6 (constant_shift i).upper (constant_shift i).funct3 inst

-- of the register-register operation i
abbrev pub IsOperation : Operation → ℕ → Type 0
IsOperation i inst = Encoded7 (operation i).upper (operation i).funct3 inst

-- of the shift by a register i
abbrev pub IsShift : Shift → ℕ → Type 0
IsShift i inst = Encoded7 (shift i).upper (shift i).funct3 inst

-- of the branch i
abbrev pub IsBranch : Branch → ℕ → Type 0
IsBranch i inst = Encoded BRANCH (branch i).funct3 inst

-- of the load i
abbrev pub IsLoad : Load → ℕ → Type 0
IsLoad i inst = Encoded LOAD (load i).funct3 inst

-- of the store i
abbrev pub IsStore : Store → ℕ → Type 0
IsStore i inst = Encoded STORE (store i).funct3 inst

-- of LUI
abbrev pub IsLui : ℕ → Type 0
IsLui inst = Word LUI inst

-- ---- memory

-- n bytes from an address on, little-endian and zero-extended; an address is taken modulo 2,048 (01)
unfoldable pub read : ℕ → List ℕ → ℕ → ℕ
read zero m at = 0
read (suc n) m at = get_or m (at % 2048) 0 + 256 * read n m (at + 1)

-- memory with the low n bytes of v from an address on
unfoldable pub write : ℕ → List ℕ → ℕ → ℕ → List ℕ
write zero m at v = m
write (suc n) m at v = write n (set m (at % 2048) (v % 256)) (at + 1) (v / 256)

-- ---- an instruction in a state: inst is its word

-- x[rs1]
abbrev pub x_rs1 : ℕ → State → ℕ
x_rs1 inst s = reg (rs1 inst) s

-- x[rs2]
abbrev pub x_rs2 : ℕ → State → ℕ
x_rs2 inst s = reg (rs2 inst) s

-- the sign-extended I-immediate
abbrev pub i_immediate : ℕ → ℕ
i_immediate inst = low (immediate_i inst)

-- the sign-extended S-immediate
abbrev pub s_immediate : ℕ → ℕ
s_immediate inst = low (immediate_s inst)

-- "the effective address is obtained by adding register rs1 to the sign-extended 12-bit offset"
abbrev pub load_address : ℕ → State → ℕ
load_address inst s = sum (x_rs1 inst s) (i_immediate inst)

-- of a store, likewise
abbrev pub store_address : ℕ → State → ℕ
store_address inst s = sum (x_rs1 inst s) (s_immediate inst)

-- what a register-immediate instruction puts into rd
abbrev pub immediate_value : Immediate → ℕ → State → ℕ
immediate_value i inst s = (immediate i).gives (x_rs1 inst s) (i_immediate inst)

-- what a shift by a constant puts there
abbrev pub constant_shift_value : ConstantShift → ℕ → State → ℕ
constant_shift_value i inst s = (constant_shift i).gives (x_rs1 inst s) (shamt inst)

-- what a register-register operation puts there
abbrev pub operation_value : Operation → ℕ → State → ℕ
operation_value i inst s = (operation i).gives (x_rs1 inst s) (x_rs2 inst s)

-- what a shift by a register puts there
abbrev pub shift_value : Shift → ℕ → State → ℕ
shift_value i inst s = (shift i).gives (x_rs1 inst s) (x_rs2 inst s)

-- what a load puts there
abbrev pub loaded_value : Load → ℕ → State → ℕ
loaded_value i inst s = read (load i).gives s.memory (load_address inst s)

-- LUI "places the 32-bit U-immediate value into the destination register", "sign-extended to 64 bits"
abbrev pub lui_value : ℕ → ℕ
lui_value inst = low (immediate_u inst)

-- a computation puts its value into rd and changes nothing else
abbrev pub computed : ℕ → ℕ → State → State
computed inst v s = put (rd inst) v s

-- a store changes memory only
abbrev pub stored : Store → ℕ → State → State
stored i inst s = record { x = s.x; memory = write (store i).gives s.memory (store_address inst s) (x_rs2 inst s) }

-- whether a branch is taken; it changes neither registers nor memory
abbrev pub taken : Branch → ℕ → State → Bool
taken i inst s = (branch i).gives (x_rs1 inst s) (x_rs2 inst s)
