-- What the private functions of src/ ask of their arguments and leave, and the two halves of a cursor that the loops work on.
-- Assumes nothing: these are definitions.
use Rattle.std.specs.Prelude.{ℕ, ◌+◌, ◌-◌, ◌*◌, ◌^◌, ◌<◌, ◌≤◌, Bool, true, false, List, ◌++◌, drop}
use Rattle.expand.specs.declared.RomRow.{RomRow}
use Rattle.interp.specs.declared.cycle.Core.{Core}
use Rattle.interp.specs.declared.cycle.Memory.{Memory}
use Rattle.interp.specs.declared.Cursor.{Cursor}
use Rattle.interp.specs.declared.effect.Effect.{Effect}
use Rattle.interp.specs.declared.Request.{Request}
use Rattle.interp.specs.declared.Request.TheVariants.{Segment, Padding}
use Rattle.interp.specs.declared.run.Due.{Due}
use Rattle.interp.specs.declared.run.Due.TheVariants.{Exactly, PowerOfTwo}
use Rattle.interp.specs.Machine.{flat}
use Rattle.interp.specs.Cycle.{Step, cycle, padding}
use Rattle.interp.specs.Calls.{recorded, end}
use Rattle.interp.specs.Execute.{live_count_of, live_records_of, stopped_at, next_power_of_two, Executed}

-- a row's registers are x0 to x31; a premise and no invariant of RomRow, so that expand's definitions of rows hold no proofs
pub record InRange (row : RomRow) : Type 0 where
  pub rd : row.rd < 32
  pub rs1 : row.rs1 < 32
  pub rs2 : row.rs2 < 32

-- an effect's cell is a register cell, its address a RAM word, and its flags are the twelve; a premise and not a type, so that
-- the definitions of the arms (Cycle) hold no proofs
pub record Sound (e : Effect) : Type 0 where
  pub rd : e.write.rd < 64
  pub addr : e.access.ram_addr < 256
  pub flags : e.shown.flags < 0x1000

-- a cursor is its numbers and its two arrays
abbrev pub whole : Core → Memory → Cursor
whole k m =
    record {
      regs = m.regs;
      ram = m.ram;
      micro_pc = k.micro_pc;
      cycles = k.cycles;
      halted = k.halted;
      output = k.output;
      next_fetch = k.next_fetch;
    }

-- the numbers of a cursor
abbrev pub core_of : Cursor → Core
core_of c =
    record {
      micro_pc = c.micro_pc;
      cycles = c.cycles;
      halted = c.halted;
      output = c.output;
      next_fetch = c.next_fetch;
    }

-- what up to n live cycles need, with so many rows and so many words of room
pub record Ready (count : ℕ) (k : Core) (n room : ℕ) : Type 0 where
  pub pc : k.micro_pc.0 < count
  pub fetch : k.next_fetch.0 < count
  pub few_cycles : 0 < n → k.cycles + n ≤ 2 ^ 62
  pub fits : 17 * n ≤ room

-- how many records are due after so many live cycles
abbrev pub due_of : Due → ℕ → ℕ
due_of (Exactly n) count = n
due_of PowerOfTwo count = next_power_of_two count

-- the records that are due hold the live ones and have room, however many cycles up to the limit were live
pub record Room (due : Due) (limit room : ℕ) : Type 0 where
  pub enough : (count : ℕ) → count ≤ limit → count ≤ due_of due count
  pub fits : (count : ℕ) → count ≤ limit → 17 * due_of due count ≤ room

-- what live cycles and then padding up to the records that are due leave
abbrev pub padded_to : Due → List ℕ → ℕ → Cursor → List ℕ → Executed
padded_to due rows limit c buffer =
    let taken = live_count_of rows limit c in
    let count = due_of due taken in
    let stopped = stopped_at rows limit c in
    record {
      number = 0;
      live_count = taken;
      record_count = count;
      cursor = end (padding rows) (count - taken) stopped;
      buffer = flat (live_records_of rows limit c) ++ (flat (recorded (padding rows) (count - taken) stopped) ++ drop (17 * count) buffer);
    }

-- whether a request is for a segment
abbrev pub wants_segment : Request → Bool
wants_segment (Segment n) = true
wants_segment (Padding n) = false

-- how many cycles a request is for
abbrev pub length_of : Request → ℕ
length_of (Segment n) = n
length_of (Padding n) = n

-- the most live cycles of its call: a padding call has none
abbrev pub limit_of : Request → ℕ
limit_of (Segment n) = n
limit_of (Padding n) = 0

-- the cycle of its call
abbrev pub step_of : Request → List ℕ → Cursor → Step
step_of (Segment n) rows = cycle rows
step_of (Padding n) rows = padding rows
