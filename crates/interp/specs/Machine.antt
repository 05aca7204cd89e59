-- The machine's values: the row that a cycle works at, the fresh cursor, and the record of a cycle with its 17 words (01,
-- "Cursor and live cycle"). Assumes nothing: these are definitions.
use Rattle.std.specs.Prelude.{ℕ, ◌+◌, ◌*◌, false, List, [], ◌∷◌, ◌++◌, take, replicate, slice_index}
use Rattle.expand.specs.Rows.{row_of}
use Rattle.expand.specs.declared.MicroPc.{MicroPc}
use Rattle.expand.specs.declared.RomRow.{RomRow}
use Rattle.interp.specs.declared.Cursor.{Cursor}
use Rattle.interp.specs.declared.CycleRecord.{CycleRecord}

-- row i of the ROM
abbrev pub row_at : List ℕ → ℕ → RomRow
row_at rows i = row_of (slice_index rows i)

-- a row position
abbrev pub at : ℕ → MicroPc
at i = record { 0 = i }

-- ---- the cursor

-- RAM before the first cycle: the input's first 256 words, 0 after them
unfoldable pub loaded : List ℕ → List ℕ
loaded input = take 256 (input ++ replicate 256 0)

-- the fresh cursor: all zero, the input in RAM
unfoldable pub start_of : List ℕ → Cursor
start_of input =
    record {
      regs = replicate 64 0;
      ram = loaded input;
      micro_pc = at 0;
      cycles = 0;
      halted = false;
      output = 0;
      next_fetch = at 0;
    }

-- cell i of the registers, or word i of RAM
abbrev pub cell : List ℕ → ℕ → ℕ
cell cells i = slice_index cells i

-- ---- the record

-- word 16: byte_offset + 2^8 × store_width + 2^16 × flags
abbrev pub packed : CycleRecord → ℕ
packed r = r.byte_offset + 0x100 * r.store_width + 0x1_0000 * r.flags

-- the 17 words of a record, in order
unfoldable pub words : CycleRecord → List ℕ
words r =
    r.micro_pc.0
    ∷ r.rs1_val
    ∷ r.rs2_val
    ∷ r.rd_val
    ∷ r.rd_old
    ∷ r.rd
    ∷ r.ram_addr
    ∷ r.ram_word
    ∷ r.ram_old
    ∷ r.ram_new
    ∷ r.store_src
    ∷ r.next_pc.0
    ∷ r.alu_a
    ∷ r.alu_b
    ∷ r.alu_out
    ∷ r.shift_out
    ∷ packed r
    ∷ []

-- the words of records, one record after the other
unfoldable pub flat : List CycleRecord → List ℕ
flat [] = []
flat (r ∷ rs) = words r ++ flat rs
