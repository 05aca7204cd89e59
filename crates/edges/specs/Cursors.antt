-- The cursors that the programs start from, and their cells. Assumes nothing: these are definitions.
use Rattle.std.specs.Prelude.{ℕ, zero, suc, ◌-◌, Bool, true, false, cond, List, [], ◌∷◌, ◌++◌, set, ltb}
use Rattle.interp.specs.Machine.{at}
use Rattle.interp.specs.Values.{bool_word}
use Rattle.interp.specs.declared.Cursor.{Cursor}

-- a cursor of its parts
abbrev pub cursor : List ℕ → List ℕ → ℕ → ℕ → ℕ → Bool → ℕ → Cursor
cursor regs ram pc fetch cycles halted output =
    record {
      regs = regs;
      ram = ram;
      micro_pc = at pc;
      cycles = cycles;
      halted = halted;
      output = output;
      next_fetch = at fetch;
    }

-- the registers, and behind them RAM
abbrev pub cells_of : Cursor → List ℕ
cells_of c = c.regs ++ c.ram

-- what is no cell; halted is 1 if it is so
abbrev pub numbers_of : Cursor → List ℕ
numbers_of c = c.micro_pc.0 ∷ c.cycles ∷ bool_word c.halted ∷ c.output ∷ c.next_fetch.0 ∷ []

-- n numbers from k on
abbrev pub up_from : ℕ → ℕ → List ℕ
up_from zero k = []
up_from (suc n) k = k ∷ up_from n (suc k)

-- cell 0 is 0, cell i is 30 + i
abbrev pub marked_regs : List ℕ
marked_regs = 0 ∷ up_from 63 31

-- word i is 94 + i
abbrev pub marked_ram : List ℕ
marked_ram = up_from 256 94

-- at row 0 after 3 cycles, with output 9
abbrev pub marked_cursor : Cursor
marked_cursor = cursor marked_regs marked_ram 0 0 3 false 9

-- the cursor with other arrays
abbrev pub with_arrays : Cursor → List ℕ → List ℕ → Cursor
with_arrays c regs ram = cursor regs ram c.micro_pc.0 c.next_fetch.0 c.cycles c.halted c.output

-- the cursor with other numbers
abbrev pub with_numbers : Cursor → ℕ → ℕ → ℕ → Bool → ℕ → Cursor
with_numbers c pc fetch cycles halted output = cursor c.regs c.ram pc fetch cycles halted output

-- the cursor at another row, with another next_fetch
abbrev pub at_rows : Cursor → ℕ → ℕ → Cursor
at_rows c pc fetch = with_numbers c pc fetch c.cycles c.halted c.output

-- the cursor with another count of cycles
abbrev pub with_cycles : Cursor → ℕ → Cursor
with_cycles c n = with_numbers c c.micro_pc.0 c.next_fetch.0 n c.halted c.output

-- the cursor, halted with an output
abbrev pub halted_with : Cursor → ℕ → Cursor
halted_with c output = with_numbers c c.micro_pc.0 c.next_fetch.0 c.cycles true output

-- the cursor with register cell i set; none is past the last
abbrev pub with_reg : Cursor → ℕ → ℕ → Cursor
with_reg c i v = cond (ltb i 64) (with_arrays c (set c.regs i v) c.ram) c

-- the cursor with RAM word i set; none is past the last
abbrev pub with_ram : Cursor → ℕ → ℕ → Cursor
with_ram c i v = cond (ltb i 256) (with_arrays c c.regs (set c.ram i v)) c

-- the cursor with the cell at a place set: the registers stand before RAM
abbrev pub with_cell : Cursor → ℕ → ℕ → Cursor
with_cell c i v = cond (ltb i 64) (with_reg c i v) (with_ram c (i - 64) v)
