-- What the arms of the live cycle compute, in plain arithmetic on words, as interp.rs has it (01, "Cursor and live cycle") with T-01's
-- comparison. A word is a number below 2^64. Assumes nothing: these are definitions.
use Rattle.std.specs.Prelude.{ℕ, ◌+◌, ◌-◌, ◌*◌, ◌/◌, ◌%◌, ◌^◌, min, Bool, false, cond, not, ◌&&◌, ◌==◌, bit_and, bit_or, bit_xor, nat_lt}
use Rattle.expand.specs.declared.MicroPc.{MicroPc}
use Rattle.interp.specs.Machine.{at}

-- ---- words

-- a sum wraps
abbrev pub plus : ℕ → ℕ → ℕ
plus a b = (a + b) % 2 ^ 64

-- a difference wraps
abbrev pub minus : ℕ → ℕ → ℕ
minus a b = (a + (2 ^ 64 - b)) % 2 ^ 64

-- x shifted left by k places
abbrev pub left : ℕ → ℕ → ℕ
left x k = x * 2 ^ k % 2 ^ 64

-- x shifted right by k places
abbrev pub right : ℕ → ℕ → ℕ
right x k = x / 2 ^ k

-- the same with the sign kept: a negative word is the complement of the shift of its complement
unfoldable pub signed_right : ℕ → ℕ → ℕ
signed_right x k = cond (nat_lt x (2 ^ 63)) (x / 2 ^ k) (2 ^ 64 - 1 - (2 ^ 64 - 1 - x) / 2 ^ k)

-- the signed order: that of the words with 2^63 added
abbrev pub less : ℕ → ℕ → Bool
less a b = nat_lt (plus a (2 ^ 63)) (plus b (2 ^ 63))

-- a test's answer as a word
abbrev pub bool_word : Bool → ℕ
bool_word t = cond t 1 0

-- ---- the ALU

-- raw's opcode is 0x33
abbrev pub register_form : ℕ → Bool
register_form raw = raw % 2 ^ 7 == 0x33

-- b in the register form, else the immediate
abbrev pub second_operand : ℕ → ℕ → ℕ → ℕ
second_operand raw b imm = cond (register_form raw) b imm

-- raw div 2^25 is 0x20
abbrev pub alternate : ℕ → Bool
alternate raw = raw / 2 ^ 25 == 0x20

-- x shifted by k: left if l, right if r, with the sign kept if s; else x
unfoldable pub shift_at : Bool → Bool → Bool → ℕ → ℕ → ℕ
shift_at l r s x k = cond l (left x k) (cond r (cond s (signed_right x k) (right x k)) x)

-- the shift of funct3: 1 is left, 5 is right
abbrev pub shift : ℕ → ℕ → ℕ → ℕ → ℕ
shift funct3 raw x k = shift_at (funct3 == 1) (funct3 == 5) (alternate raw) x k

-- a difference only in the alternate register form
unfoldable pub sum : ℕ → ℕ → ℕ → ℕ
sum raw a b = cond (register_form raw && alternate raw) (minus a b) (plus a b)

-- of a and the second operand b; funct3 2 compares signed (T-01; interp.rs has 0), 3 unsigned
unfoldable pub alu_value : ℕ → ℕ → ℕ → ℕ → ℕ
alu_value funct3 raw a b =
    cond (funct3 == 0) (sum raw a b)
    (cond (funct3 == 1) (shift 1 raw a (b % 64))
    (cond (funct3 == 2) (bool_word (less a b))
    (cond (funct3 == 3) (bool_word (nat_lt a b))
    (cond (funct3 == 4) (bit_xor a b)
    (cond (funct3 == 5) (shift 5 raw a (b % 64))
    (cond (funct3 == 6) (bit_or a b)
    (cond (funct3 == 7) (bit_and a b) 0)))))))

-- the immediate; opcode 0x17, AUIPC, adds 4 × mp
unfoldable pub upper_value : ℕ → ℕ → MicroPc → ℕ
upper_value raw imm mp = cond (raw % 2 ^ 7 == 0x17) (plus imm (mp.0 * 4)) imm

-- ---- a shift stage

-- 2^stage if that bit of b is set, else 0; stages past the sixth do not shift
unfoldable pub stage_amount : ℕ → ℕ → ℕ
stage_amount stage b = cond (nat_lt stage 6) (b / 2 ^ stage % 2 * 2 ^ stage) 0

-- the accumulator after a stage
abbrev pub stage_value : ℕ → ℕ → ℕ → ℕ → ℕ → ℕ
stage_value stage funct3 raw acc b = shift funct3 raw acc (stage_amount stage b)

-- ---- loads and stores

-- the RAM word of an address
abbrev pub ram_addr_of : ℕ → ℕ
ram_addr_of address = address / 8 % 256

-- the byte of an address in its word
abbrev pub byte_offset_of : ℕ → ℕ
byte_offset_of address = address % 8

-- byte i of a word, from the low end, i modulo 8
abbrev pub byte : ℕ → ℕ → ℕ
byte word i = word / 2 ^ (8 * (i % 8)) % 2 ^ 8

-- bytes i and i + 1, each modulo 8
abbrev pub half : ℕ → ℕ → ℕ
half word i = byte word (i + 1) * 2 ^ 8 + byte word i

-- byte and half loads are zero-extended; all others give the whole word
unfoldable pub load_value : ℕ → ℕ → ℕ → ℕ
load_value funct3 word off =
    cond (funct3 == 0) (byte word off)
    (cond (funct3 == 4) (byte word off)
    (cond (funct3 == 1) (half word off)
    (cond (funct3 == 5) (half word off) word)))

-- how many bytes a store has
unfoldable pub store_width : ℕ → ℕ
store_width funct3 = cond (funct3 == 0) 1 (cond (funct3 == 1) 2 (cond (funct3 == 2) 4 8))

-- old with its m bits from place k on replaced by the low m bits of src
abbrev pub merge : ℕ → ℕ → ℕ → ℕ → ℕ
merge old src k m = (old / 2 ^ k / 2 ^ m * 2 ^ m + src % 2 ^ m) * 2 ^ k + old % 2 ^ k

-- old with the bytes of src from off on; what lies past the word is dropped
unfoldable pub store_value : ℕ → ℕ → ℕ → ℕ → ℕ
store_value funct3 old src off = merge old src (8 * (off % 8)) (8 * min (store_width funct3) (8 - off % 8))

-- ---- branches and jumps

-- equal, not equal, signed less, not less, unsigned less, not less
unfoldable pub branch_taken : ℕ → ℕ → ℕ → Bool
branch_taken funct3 a b =
    cond (funct3 == 0) (a == b)
    (cond (funct3 == 1) (not (a == b))
    (cond (funct3 == 4) (less a b)
    (cond (funct3 == 5) (not (less a b))
    (cond (funct3 == 6) (nat_lt a b)
    (cond (funct3 == 7) (not (nat_lt a b)) false)))))

-- mp and a quarter of the signed imm, taken towards zero; a negative sum is 0
unfoldable pub quarter_on : ℕ → ℕ → ℕ
quarter_on mp imm = cond (nat_lt imm (2 ^ 63)) (plus mp (imm / 4)) (mp - (2 ^ 64 - imm) / 4)

-- the source's prog_len: the rows, and 1 where there are none
unfoldable pub row_count : ℕ → ℕ
row_count rows = cond (rows == 0) 1 rows

-- the row that a branch or JAL at row mp goes to
abbrev pub branch_target : MicroPc → ℕ → ℕ → MicroPc
branch_target mp imm rows = at (quarter_on mp.0 imm % row_count rows)

-- the row that JALR goes to
abbrev pub jalr_target : ℕ → ℕ → ℕ → MicroPc
jalr_target a imm rows = at (plus a imm / 4 % row_count rows)

-- what a jump at row mp writes
abbrev pub link_value : MicroPc → ℕ
link_value mp = plus (mp.0 * 4) 4
