-- What is claimed of the recorder against the manual (01, "Agreement with the manual", and T-01), over the live cycles of interp's
-- specs/Cycle.antt. The function `agreement` of src/lib.rt has it for its contract. Assumes nothing: these are definitions.
use Rattle.std.specs.Prelude.{◌≡◌, ℕ, zero, suc, ◌+◌, ◌-◌, ◌/◌, ◌%◌, ◌^◌, ◌≤◌, ◌<◌, Bool, false, List, [], ◌∷◌, ◌++◌, length, get_or, take, drop, eqb}
use Rattle.decode.specs.Manual.{rd, rs2, bits}
use Rattle.expand.specs.Expand.{rows_of, expansion_of, starts_of}
use Rattle.interp.specs.declared.Cursor.{Cursor}
use Rattle.interp.specs.declared.CycleRecord.{CycleRecord}
use Rattle.interp.specs.Flags as flag
use Rattle.interp.specs.Machine.{start_of, at, cell}
use Rattle.interp.specs.Cycle.{redirect, live, padding, cycle}
use Rattle.interp.specs.Calls.{recorded, end}
use Rattle.rv64i.specs.Manual.{State, difference, Immediate, IsImmediate, immediate_value, ConstantShift, SLLI, SRLI, SRAI, IsConstantShift, shamt, constant_shift_value, Operation, IsOperation, operation_value, Shift, shift, IsShift, shift_value, Branch, IsBranch, taken, Load, load, IsLoad, loaded_value, load_address, Store, store, IsStore, stored, store_address, IsLui, lui_value, x_rs1, x_rs2, i_immediate, s_immediate, computed}

-- ---- the corresponding state

-- the n low bytes of a word, the lowest first
unfoldable pub bytes_of : ℕ → ℕ → List ℕ
bytes_of zero w = []
bytes_of (suc n) w = w % 256 ∷ bytes_of n (w / 256)

-- RAM as bytes: word i at the addresses from 8 × i on
unfoldable pub bytes : List ℕ → List ℕ
bytes [] = []
bytes (w ∷ ws) = bytes_of 8 w ++ bytes ws

-- cells 1 to 31 are x1 to x31
abbrev pub state_of : Cursor → State
state_of c = record { x = take 31 (drop 1 c.regs); memory = bytes c.ram }

-- ---- an instruction word in the recorder

-- how many cycles it takes: one a row
abbrev pub cycles : ℕ → ℕ
cycles inst = length (rows_of inst)

-- what the type of a cursor says of its cells
pub record Typed (c : Cursor) : Type 0 where
  pub regs : length c.regs ≡ 64
  pub ram : length c.ram ≡ 256
  pub reg_words : (i : ℕ) → cell c.regs i < 2 ^ 64
  pub ram_words : (i : ℕ) → cell c.ram i < 2 ^ 64
  pub output : c.output < 2 ^ 64

-- cell 0, where x0 is read, is zero
abbrev pub ZeroCell : Cursor → Type 0
ZeroCell c = cell c.regs 0 ≡ 0

-- a cursor at an instruction word: from micro_pc on stand the word's rows; cell 0 is zero
pub record At (rows : List ℕ) (inst : ℕ) (c : Cursor) : Type 0 where
  pub here : take (cycles inst) (drop c.micro_pc.0 rows) ≡ rows_of inst
  pub zero : ZeroCell c
  pub typed : Typed c

-- the ALU's operands and output in a record
pub record Shows (r : CycleRecord) (a b out : ℕ) : Type 0 where
  pub alu_a : r.alu_a ≡ a
  pub alu_b : r.alu_b ≡ b
  pub alu_out : r.alu_out ≡ out

-- the RAM word and the byte of an address in a record
pub record Accesses (r : CycleRecord) (address : ℕ) : Type 0 where
  pub ram_addr : r.ram_addr ≡ address / 8 % 256
  pub byte_offset : r.byte_offset ≡ address % 8

-- the flag branch_taken of a record
abbrev pub taken_flag : CycleRecord → Bool
taken_flag r = eqb (r.flags / flag.branch_taken % 2) 1

-- ---- what is said of an instruction word inst at a cursor c

module _ (rows : List ℕ) (inst : ℕ) (c : Cursor) where
  -- the manual's state before it
  abbrev pub s : State
  s = state_of c

  -- the cursor after its live cycles
  abbrev pub after : Cursor
  after = end (live rows) (cycles inst) c

  -- the record of the last of them
  abbrev pub shown : CycleRecord
  shown = (live rows (end (live rows) (cycles inst - 1) c)).shown

  -- the row after its own
  abbrev pub next : ℕ
  next = (c.micro_pc.0 + cycles inst) % length rows

  -- rd gets v, and the record says so: destination 0 is cell 32 there
  pub record Writes (v : ℕ) : Type 0 where
    pub state : state_of after ≡ computed inst v s
    pub rd : shown.rd ≡ redirect (rd inst)
    pub rd_val : shown.rd_val ≡ v

  -- the machine goes on at the next row, with cell 0 still zero
  pub record GoesOn : Type 0 where
    pub running : after.halted ≡ false
    pub next : after.micro_pc ≡ at next
    pub zero : ZeroCell after

  -- ADD SUB XOR OR AND SLT SLTU
  pub record Operates (v : ℕ) : Type 0 where
    pub goes_on : GoesOn
    pub writes : Writes v
    pub rs1_val : shown.rs1_val ≡ x_rs1 inst s
    pub rs2_val : shown.rs2_val ≡ x_rs2 inst s
    pub shows : Shows shown (x_rs1 inst s) (x_rs2 inst s) v

  -- ADDI XORI ORI ANDI SLTI SLTIU, SLLI SRLI SRAI: the second operand is the I-immediate, of which a shift takes its low six bits
  pub record Computes (v : ℕ) : Type 0 where
    pub goes_on : GoesOn
    pub writes : Writes v
    pub rs1_val : shown.rs1_val ≡ x_rs1 inst s
    pub shows : Shows shown (x_rs1 inst s) (i_immediate inst) v

  -- SLL SRL SRA: all six records show the operands, the last the value; in cell 0 stays the shift by the amount's low five bits
  pub record Shifts (i : Shift) : Type 0 where
    pub running : after.halted ≡ false
    pub next : after.micro_pc ≡ at next
    pub writes : Writes (shift_value i inst s)
    pub rs1_val : (k : ℕ) → k < cycles inst → (live rows (end (live rows) k c)).shown.rs1_val ≡ x_rs1 inst s
    pub rs2_val : (k : ℕ) → k < cycles inst → (live rows (end (live rows) k c)).shown.rs2_val ≡ x_rs2 inst s
    pub shows : Shows shown (x_rs1 inst s) (x_rs2 inst s) (shift_value i inst s)
    pub cell_0 : cell after.regs 0 ≡ (shift i).gives (x_rs1 inst s) (x_rs2 inst s % 2 ^ 5)

  -- LUI
  pub record Places (v : ℕ) : Type 0 where
    pub goes_on : GoesOn
    pub writes : Writes v
    pub shows : Shows shown 0 0 v

  -- LBU LHU LD
  pub record Loads (v : ℕ) : Type 0 where
    pub goes_on : GoesOn
    pub writes : Writes v
    pub rs1_val : shown.rs1_val ≡ x_rs1 inst s
    pub shows : Shows shown (x_rs1 inst s) (i_immediate inst) (load_address inst s)
    pub accesses : Accesses shown (load_address inst s)

  -- SB SH SW SD: ram_old and ram_new are the RAM word before and after
  pub record Stores (i : Store) : Type 0 where
    pub goes_on : GoesOn
    pub state : state_of after ≡ stored i inst s
    pub rs1_val : shown.rs1_val ≡ x_rs1 inst s
    pub rs2_val : shown.rs2_val ≡ x_rs2 inst s
    pub shows : Shows shown (x_rs1 inst s) (s_immediate inst) (store_address inst s)
    pub accesses : Accesses shown (store_address inst s)
    pub src : shown.store_src ≡ x_rs2 inst s
    pub width : shown.store_width ≡ (store i).gives
    pub old : shown.ram_old ≡ cell c.ram shown.ram_addr
    pub new : shown.ram_new ≡ cell after.ram shown.ram_addr

  -- BEQ BNE BLT BGE BLTU BGEU: the condition, not the target; if it does not hold, the machine goes on at the next row
  pub record Branches (i : Branch) : Type 0 where
    pub running : after.halted ≡ false
    pub state : state_of after ≡ s
    pub zero : ZeroCell after
    pub rs1_val : shown.rs1_val ≡ x_rs1 inst s
    pub rs2_val : shown.rs2_val ≡ x_rs2 inst s
    pub shows : Shows shown (x_rs1 inst s) (x_rs2 inst s) (difference (x_rs1 inst s) (x_rs2 inst s))
    pub condition : taken_flag shown ≡ taken i inst s
    pub not_taken : taken i inst s ≡ false → after.micro_pc ≡ at next

-- ---- how far the two agree

-- shifts by a constant: SRAI by 0 to 31
abbrev pub most : ConstantShift → ℕ
most SLLI = 63
most SRLI = 63
most SRAI = 31

-- loads and stores: n bytes at an address lie in one RAM word
abbrev pub InWord : ℕ → ℕ → Type 0
InWord address n = address % 8 + n ≤ 8

-- ---- the claim

-- so that the agreement can be used from word to word of a program
pub record Premises : Type 0 where
  -- what `At` asks of the rows is met at the first row of each word, and the row after a word's rows is the next word's first
  pub first_row : (program : List ℕ) (i : ℕ) (c : Cursor) → i < length program → c.micro_pc.0 ≡ get_or (starts_of program) i 0
      → ZeroCell c → Typed c → At (expansion_of program) (get_or program i 0) c
  pub next_word : (program : List ℕ) (i : ℕ) → suc i < length program
      → get_or (starts_of program) (suc i) 0 ≡ get_or (starts_of program) i 0 + cycles (get_or program i 0)
  -- a word's start is below the row count, so `next` of a word is the next word's start
  pub start_below : (program : List ℕ) (i : ℕ) → i < length program → get_or (starts_of program) i 0 < length (expansion_of program)
  pub next_row : (program : List ℕ) (i : ℕ) (c : Cursor) → suc i < length program → c.micro_pc.0 ≡ get_or (starts_of program) i 0
      → next (expansion_of program) (get_or program i 0) c ≡ get_or (starts_of program) (suc i) 0
  -- a fresh cursor is at the first word, and its cell 0 is zero
  pub fresh_row : (program input : List ℕ) → (start_of input).micro_pc.0 ≡ get_or (starts_of program) 0 0
  pub fresh_zero : (input : List ℕ) → ZeroCell (start_of input)
  -- a fresh cursor is typed, and every cycle keeps it so
  pub fresh : (input : List ℕ) → ((i : ℕ) → cell input i < 2 ^ 64) → Typed (start_of input)
  pub live_kept : (rows : List ℕ) (c : Cursor) → Typed c → Typed (live rows c).after
  pub padding_kept : (rows : List ℕ) (c : Cursor) → Typed c → Typed (padding rows c).after
  -- on a machine that has not halted, the cycles of a segment call are these live cycles
  pub segment_cursor : (rows : List ℕ) (inst : ℕ) (c : Cursor) → inst < 2 ^ 32 → At rows inst c → c.halted ≡ false
      → end (cycle rows) (cycles inst) c ≡ end (live rows) (cycles inst) c
  pub segment_records : (rows : List ℕ) (inst : ℕ) (c : Cursor) → inst < 2 ^ 32 → At rows inst c → c.halted ≡ false
      → recorded (cycle rows) (cycles inst) c ≡ recorded (live rows) (cycles inst) c

-- a field for each group of 01's list, which SLT and SLTI of T-01 have joined
pub record Agreement : Type 0 where
  -- ADD SUB XOR OR AND SLT SLTU
  pub operations : (i : Operation) (rows : List ℕ) (inst : ℕ) (c : Cursor) → IsOperation i inst → At rows inst c
      → Operates rows inst c (operation_value i inst (state_of c))
  -- ADDI XORI ORI ANDI SLTI SLTIU
  pub immediates : (i : Immediate) (rows : List ℕ) (inst : ℕ) (c : Cursor) → IsImmediate i inst → At rows inst c
      → Computes rows inst c (immediate_value i inst (state_of c))
  -- SLLI SRLI, SRAI by 0 to 31
  pub constant_shifts : (i : ConstantShift) (rows : List ℕ) (inst : ℕ) (c : Cursor) → IsConstantShift i inst → shamt inst ≤ most i → At rows inst c
      → Computes rows inst c (constant_shift_value i inst (state_of c))
  -- SLL SRL SRA over six rows, rs2 not x0, cell 0 afterwards excepted
  pub shifts : (i : Shift) (rows : List ℕ) (inst : ℕ) (c : Cursor) → IsShift i inst → 0 < rs2 inst → At rows inst c → Shifts rows inst c i
  -- LBU at any offset, LHU up to 6, LD at 0
  pub loads : (i : Load) (rows : List ℕ) (inst : ℕ) (c : Cursor) → IsLoad i inst → InWord (load_address inst (state_of c)) (load i).gives → At rows inst c
      → Loads rows inst c (loaded_value i inst (state_of c))
  -- SB at any offset, SH up to 6, SW up to 4, SD at 0
  pub stores : (i : Store) (rows : List ℕ) (inst : ℕ) (c : Cursor) → IsStore i inst → InWord (store_address inst (state_of c)) (store i).gives → At rows inst c
      → Stores rows inst c i
  -- the six branch conditions
  pub branches : (i : Branch) (rows : List ℕ) (inst : ℕ) (c : Cursor) → IsBranch i inst → At rows inst c → Branches rows inst c i
  -- LUI with bit 31 clear
  pub lui : (rows : List ℕ) (inst : ℕ) (c : Cursor) → IsLui inst → bits inst 31 31 ≡ 0 → At rows inst c
      → Places rows inst c (lui_value inst)
  pub premises : Premises
