-- What the crates above use of cycles and calls beyond the text of their definitions. The function `cycle_laws` of src/lib.rt has
-- the whole for its contract. Assumes nothing: these are definitions.
use Rattle.std.specs.Prelude.{◌≡◌, ℕ, suc, ◌*◌, ◌^◌, ◌<◌, ◌≤◌, Bool, true, false, List, length, ◌==◌, nat_le, map, sum}
use Rattle.std.specs.List.{list_all}
use Rattle.refusal_table.specs.Table.{first_met}
use Rattle.interp.specs.declared.Cursor.{Cursor}
use Rattle.interp.specs.declared.Refusal.{Refusal}
use Rattle.interp.specs.Machine.{start_of, flat}
use Rattle.interp.specs.Cycle.{alu_flags, stores, Step, live, padding, cycle}
use Rattle.interp.specs.Calls.{recorded, end, Call, amount, lent, turn, row_lines, answer_of, counted, added, total, segments, refusal_number}
use Rattle.interp.specs.Execute.{execute_of}

-- 64 registers and 256 words of RAM
pub record Sized (c : Cursor) : Type 0 where
  pub regs : length c.regs ≡ 64
  pub ram : length c.ram ≡ 256

-- the machine has not halted before any of n live cycles
abbrev pub Running : List ℕ → ℕ → Cursor → Type 0
Running rows n c = (k : ℕ) → k < n → (end (live rows) k c).halted ≡ false

-- the cursor with its count of cycles put to 0: two cursors agree but for cycles where these are equal
unfoldable pub uncounted : Cursor → Cursor
uncounted c =
    record {
      regs = c.regs;
      ram = c.ram;
      micro_pc = c.micro_pc;
      cycles = 0;
      halted = c.halted;
      output = c.output;
      next_fetch = c.next_fetch;
    }

-- two steps show the same record, and leave cursors that agree but for cycles
pub record Uncounted (s t : Step) : Type 0 where
  pub shown : s.shown ≡ t.shown
  pub after : uncounted s.after ≡ uncounted t.after

-- rows that no call refuses
abbrev pub RowsAccepted : List ℕ → Type 0
RowsAccepted rows = first_met (row_lines rows) ≡ 0

-- the buffer of each call has room for its records
abbrev pub buffers_suffice : List Call → Bool
buffers_suffice calls = list_all (λ k. nat_le (17 * amount k) (length (lent k))) calls

-- the contract of `cycle_laws`
pub record CycleLaws : Type 0 where
  -- the sizes: of the fresh cursor, after a live and a padding cycle, after a call, after execute
  pub start_sized : (input : List ℕ) → Sized (start_of input)
  pub live_sized : (rows : List ℕ) (c : Cursor) → Sized c → Sized (live rows c).after
  pub padding_sized : (rows : List ℕ) (c : Cursor) → Sized c → Sized (padding rows c).after
  pub answer_sized : (rows : List ℕ) (c : Cursor) (k : Call) → Sized c → Sized (answer_of rows c k).cursor
  pub execute_sized : (rows input : List ℕ) (max : ℕ) (buffer : List ℕ) → Sized (execute_of rows input max buffer).cursor
  -- no refusal has the number of an accepted call
  pub refused : (why : Refusal) → (refusal_number why == 0) ≡ false
  -- an ALU row stores nothing
  pub alu_quiet : (funct3 raw : ℕ) → stores (alu_flags funct3 raw) ≡ false
  -- the last of n + 1 cycles starts where the first n end
  pub one_more : (f : Cursor → Step) (n : ℕ) (c : Cursor) → end f (suc n) c ≡ (f (end f n c)).after
  -- on a machine that has not halted, the cycles of a segment call are live ones
  pub live_cursor : (rows : List ℕ) (n : ℕ) (c : Cursor) → Running rows n c → end (cycle rows) n c ≡ end (live rows) n c
  pub live_records : (rows : List ℕ) (n : ℕ) (c : Cursor) → Running rows n c → recorded (cycle rows) n c ≡ recorded (live rows) n c
  -- no cycle of a call looks at cycles
  pub not_counted : (rows : List ℕ) (k : Call) (c d : Cursor) → uncounted c ≡ uncounted d → Uncounted (turn k rows c) (turn k rows d)
  -- what a call adds to the log, and where it ends: at as many cycles as it counts, none if it is refused
  pub adds : (rows : List ℕ) (c : Cursor) (k : Call)
      → added k (answer_of rows c k) ≡ flat (recorded (turn k rows) (counted (answer_of rows c k).number k) c)
  pub ends : (rows : List ℕ) (c : Cursor) (k : Call)
      → (answer_of rows c k).cursor ≡ end (turn k rows) (counted (answer_of rows c k).number k) c
  -- segment calls from a fresh cursor on such rows, with such buffers and of at most 2^62 cycles in all, are all accepted: as many
  -- cycles count as they ask for
  pub all_accepted : (rows input : List ℕ) (calls : List Call) → RowsAccepted rows → segments calls ≡ true → buffers_suffice calls ≡ true
      → sum (map amount calls) ≤ 2 ^ 62 → total rows (start_of input) calls ≡ sum (map amount calls)
