-- One cycle (01, "Cursor and live cycle" and "Padding cycle"). An arm says what a row of its kind does, as an `Effect`; the
-- record and the next cursor are made of it in one place, so that no arm can record one thing and do another. `a` and `b`
-- are registers rs1 and rs2 of the row, as in 01. Assumes nothing: these are definitions.
use Rattle.std.specs.Prelude.{ℕ, suc, ◌+◌, ◌/◌, ◌%◌, Bool, true, false, cond, ◌&&◌, ◌||◌, List, length, ◌==◌, slice_set, Option, Some, None}
use Rattle.expand.specs.declared.MicroPc.{MicroPc}
use Rattle.expand.specs.declared.RomRow.{RomRow}
use Rattle.expand.specs.declared.VirtualKind.{VirtualKind}
use Rattle.expand.specs.declared.VirtualKind.TheVariants.{Alu, ShiftStage, Load, Store, Branch, Upper, Jump, System}
use Rattle.interp.specs.declared.effect.Access.{Access}
use Rattle.interp.specs.declared.Cursor.{Cursor}
use Rattle.interp.specs.declared.CycleRecord.{CycleRecord}
use Rattle.interp.specs.declared.effect.Effect.{Effect}
use Rattle.interp.specs.declared.effect.Shown.{Shown}
use Rattle.interp.specs.declared.effect.Write.{Write}
use Rattle.interp.specs.Flags as flag
use Rattle.interp.specs.Machine.{row_at, at, cell}
use Rattle.interp.specs.Values.{plus, minus, register_form, second_operand, alternate, alu_value, stage_value, ram_addr_of, byte_offset_of, load_value, store_width, store_value, branch_taken, branch_target, jalr_target, link_value, upper_value}

-- "next": the row after mp is (mp + 1) mod rows
abbrev pub row_after : MicroPc → ℕ → MicroPc
row_after mp count = at (suc mp.0 % count)

-- ---- the parts of an effect

-- destination 0 becomes cell 32
abbrev pub redirect : ℕ → ℕ
redirect rd = cond (rd == 0) 32 rd

-- v goes to destination rd, whose old content is shown
abbrev pub writes : ℕ → ℕ → List ℕ → Write
writes rd v regs = record { rd = redirect rd; rd_val = v; rd_old = cell regs (redirect rd) }

-- cell 32 gets its own content
abbrev pub keeps : List ℕ → Write
keeps regs = record { rd = 32; rd_val = cell regs 32; rd_old = cell regs 32 }

-- RAM is not accessed: word 0 is shown
abbrev pub no_access : Access
no_access = record { ram_addr = 0; ram_old = 0; ram_new = 0; store_src = 0; byte_offset = 0; store_width = 0 }

-- the ALU's operands, its output, the output of a shift, and the flags
abbrev pub shows : ℕ → ℕ → ℕ → ℕ → ℕ → Shown
shows a b out shift flags = record { alu_a = a; alu_b = b; alu_out = out; shift_out = shift; flags = flags }

-- an effect that neither halts nor leaves a new accumulator
abbrev pub effect : Write → Access → Shown → MicroPc → Effect
effect w a s next = record { write = w; access = a; shown = s; scratch = None; next_pc = next; halts = false }

-- ---- the arms, each of a row, with the row after it

-- a difference of two registers: opcode 0x33, raw div 2^25 = 0x20
abbrev pub sub_flag : ℕ → ℕ
sub_flag raw = cond (register_form raw && alternate raw) flag.is_sub_op 0

-- the flags of an ALU row, by funct3; 2 has those of 3 (T-01; interp.rs has we alone)
unfoldable pub alu_flags : ℕ → ℕ → ℕ
alu_flags f raw =
    cond (f == 0) (flag.we + flag.is_arith + sub_flag raw)
    (cond (f == 1) (flag.we + flag.is_shift)
    (cond (f == 2) (flag.we + flag.is_arith + flag.is_sub_op)
    (cond (f == 3) (flag.we + flag.is_arith + flag.is_sub_op)
    (cond (f == 4) (flag.we + flag.is_logic)
    (cond (f == 5) (flag.we + flag.is_shift)
    (cond (f == 6) (flag.we + flag.is_logic)
    (cond (f == 7) (flag.we + flag.is_logic) flag.we)))))))

-- shift_out shows the value of funct3 1 and 5
abbrev pub shift_out : ℕ → ℕ → ℕ
shift_out f v = cond (f == 1 || f == 5) v 0

-- Alu: second operand b if raw's opcode is 0x33, else the immediate
unfoldable pub alu_arm : RomRow → MicroPc → List ℕ → Effect
alu_arm row next regs =
    let a = cell regs row.rs1 in
    let b = second_operand row.raw (cell regs row.rs2) row.imm in
    let v = alu_value row.funct3 row.raw a b in
    effect (writes row.rd v regs) no_access (shows a b v (shift_out row.funct3 v) (alu_flags row.funct3 row.raw)) next

-- stage 5 writes the value v to rd; stages 0 to 4 leave it in the accumulator, and alu_out shows it
unfoldable pub stage_effect : ℕ → RomRow → MicroPc → ℕ → List ℕ → Effect
stage_effect k row next v regs =
    let a = cell regs row.rs1 in
    let b = cell regs row.rs2 in
    cond (k == 5)
    (effect (writes row.rd v regs) no_access (shows a b v 0 flag.we) next)
    (record { write = keeps regs; access = no_access; shown = shows a b v 0 0; scratch = Some v; next_pc = next; halts = false })

-- ShiftStage k: a at stage 0, else the accumulator, shifted by 2^k if bit k of b is set
unfoldable pub stage_arm : ℕ → RomRow → MicroPc → ℕ → List ℕ → Effect
stage_arm k row next acc regs =
    let from = cond (k == 0) (cell regs row.rs1) acc in
    stage_effect k row next (stage_value k row.funct3 row.raw from (cell regs row.rs2)) regs

-- which load: byte, half, or the whole word
unfoldable pub load_flag : ℕ → ℕ
load_flag f =
    cond (f == 0) flag.ld_byte
    (cond (f == 4) flag.ld_byte
    (cond (f == 1) flag.ld_half
    (cond (f == 5) flag.ld_half flag.ld_word)))

-- the flags of a load
abbrev pub load_flags : ℕ → ℕ
load_flags f = flag.we + flag.is_arith + flag.is_load + load_flag f

-- Load: of word (address div 8) mod 256, at offset address mod 8
unfoldable pub load_arm : RomRow → MicroPc → List ℕ → List ℕ → Effect
load_arm row next regs ram =
    let a = cell regs row.rs1 in
    let address = plus a row.imm in
    let v = load_value row.funct3 (cell ram (ram_addr_of address)) (byte_offset_of address) in
    effect (writes row.rd v regs)
    (record {
      ram_addr = ram_addr_of address;
      ram_old = 0;
      ram_new = 0;
      store_src = 0;
      byte_offset = byte_offset_of address;
      store_width = 0;
    })
    (shows a row.imm address 0 (load_flags row.funct3))
    next

-- Store: of b, to the word and offset of the address
unfoldable pub store_arm : RomRow → MicroPc → List ℕ → List ℕ → Effect
store_arm row next regs ram =
    let a = cell regs row.rs1 in
    let b = cell regs row.rs2 in
    let address = plus a row.imm in
    let old = cell ram (ram_addr_of address) in
    effect (keeps regs)
    (record {
      ram_addr = ram_addr_of address;
      ram_old = old;
      ram_new = store_value row.funct3 old b (byte_offset_of address);
      store_src = b;
      byte_offset = byte_offset_of address;
      store_width = store_width row.funct3;
    })
    (shows a row.imm address 0 flag.is_store)
    next

-- the flags of a branch: the adder compares
abbrev pub branch_flags : Bool → ℕ
branch_flags taken = flag.is_arith + flag.is_sub_op + cond taken flag.branch_taken 0

-- Branch at row mp: if taken, to mp and a quarter of the immediate
unfoldable pub branch_arm : RomRow → MicroPc → ℕ → MicroPc → List ℕ → Effect
branch_arm row mp count next regs =
    let a = cell regs row.rs1 in
    let b = cell regs row.rs2 in
    let taken = branch_taken row.funct3 a b in
    effect (keeps regs) no_access
    (shows a b (minus a b) 0 (branch_flags taken))
    (cond taken (branch_target mp row.imm count) next)

-- Upper, at row mp
unfoldable pub upper_arm : RomRow → MicroPc → MicroPc → List ℕ → Effect
upper_arm row mp next regs =
    let v = upper_value row.raw row.imm mp in
    effect (writes row.rd v regs) no_access (shows (cell regs row.rs1) (cell regs row.rs2) v 0 flag.we) next

-- where a jump at row mp goes: JALR is opcode 0x67
abbrev pub jump_target : RomRow → MicroPc → ℕ → ℕ → MicroPc
jump_target row mp count a = cond (row.raw % 0x80 == 0x67) (jalr_target a row.imm count) (branch_target mp row.imm count)

-- Jump, at row mp: the rd_old of a destination that is not 0 is the link too; destination 0 shows no link
unfoldable pub jump_arm : RomRow → MicroPc → ℕ → List ℕ → Effect
jump_arm row mp count regs =
    let a = cell regs row.rs1 in
    let b = cell regs row.rs2 in
    let link = link_value mp in
    cond (row.rd == 0)
    (effect (keeps regs) no_access (shows a b 0 0 0) (jump_target row mp count a))
    (effect (record { rd = row.rd; rd_val = link; rd_old = link }) no_access (shows a b link 0 flag.we) (jump_target row mp count a))

-- System, at row mp: it halts, shows register 10, and stays at its row
unfoldable pub system_arm : RomRow → MicroPc → List ℕ → Effect
system_arm row mp regs =
    record {
      write = record { rd = 32; rd_val = cell regs 10; rd_old = cell regs 32 };
      access = no_access;
      shown = shows (cell regs row.rs1) (cell regs row.rs2) (cell regs 10) 0 flag.halted_latch;
      scratch = None;
      next_pc = mp;
      halts = true;
    }

-- the arm of a kind, at row mp of so many rows, with the accumulator of the shift stages
unfoldable pub arm_of : VirtualKind → RomRow → MicroPc → ℕ → ℕ → List ℕ → List ℕ → Effect
arm_of Alu row mp count acc regs ram = alu_arm row (row_after mp count) regs
arm_of (ShiftStage k) row mp count acc regs ram = stage_arm k row (row_after mp count) acc regs
arm_of Load row mp count acc regs ram = load_arm row (row_after mp count) regs ram
arm_of Store row mp count acc regs ram = store_arm row (row_after mp count) regs ram
arm_of Branch row mp count acc regs ram = branch_arm row mp count (row_after mp count) regs
arm_of Upper row mp count acc regs ram = upper_arm row mp (row_after mp count) regs
arm_of Jump row mp count acc regs ram = jump_arm row mp count regs
arm_of System row mp count acc regs ram = system_arm row mp regs

-- a padding cycle writes output into the row's destination and stays at its row
unfoldable pub padding_arm : RomRow → MicroPc → ℕ → List ℕ → Effect
padding_arm row mp output regs = effect (writes row.rd output regs) no_access (shows 0 0 0 0 flag.halted_latch) mp

-- ---- what an effect makes: the record, the registers and RAM

-- the record of an effect at row mp: it shows registers rs1 and rs2 and the RAM word as they stood before the cycle
unfoldable pub record_of : RomRow → MicroPc → Effect → List ℕ → List ℕ → CycleRecord
record_of row mp e regs ram =
    record {
      micro_pc = mp;
      rs1_val = cell regs row.rs1;
      rs2_val = cell regs row.rs2;
      rd_val = e.write.rd_val;
      rd_old = e.write.rd_old;
      rd = e.write.rd;
      ram_addr = e.access.ram_addr;
      ram_word = cell ram e.access.ram_addr;
      ram_old = e.access.ram_old;
      ram_new = e.access.ram_new;
      store_src = e.access.store_src;
      next_pc = e.next_pc;
      alu_a = e.shown.alu_a;
      alu_b = e.shown.alu_b;
      alu_out = e.shown.alu_out;
      shift_out = e.shown.shift_out;
      byte_offset = e.access.byte_offset;
      store_width = e.access.store_width;
      flags = e.shown.flags;
    }

-- the registers after a cycle: one cell rd is written
unfoldable pub regs_after : Effect → List ℕ → List ℕ
regs_after e regs = slice_set regs e.write.rd e.write.rd_val

-- whether flags have is_store set
abbrev pub stores : ℕ → Bool
stores flags = flags / flag.is_store % 2 == 1

-- RAM after a cycle: ram_new is stored if is_store is set
unfoldable pub ram_after : Effect → List ℕ → List ℕ
ram_after e ram = cond (stores e.shown.flags) (slice_set ram e.access.ram_addr e.access.ram_new) ram

-- ---- the accumulator of a shift

-- it lies in register cell 0
abbrev pub accumulator : List ℕ → ℕ
accumulator regs = cell regs 0

-- after a cycle: a write that no record logs
unfoldable pub scratched : Option ℕ → List ℕ → List ℕ
scratched None regs = regs
scratched (Some v) regs = slice_set regs 0 v

-- ---- the cycle

-- a cycle: the record that it shows, and the cursor after it
pub record Step : Type 0 where
  pub shown : CycleRecord
  pub after : Cursor

-- `commit`: the live cycle of an effect at row micro_pc; its next_pc becomes micro_pc and next_fetch
unfoldable pub commit : RomRow → Cursor → Effect → Step
commit row c e =
    record {
      shown = record_of row c.micro_pc e c.regs c.ram;
      after =
          record {
            regs = scratched e.scratch (regs_after e c.regs);
            ram = ram_after e c.ram;
            micro_pc = e.next_pc;
            cycles = suc c.cycles;
            halted = e.halts;
            output = cond e.halts e.write.rd_val c.output;
            next_fetch = e.next_pc;
          };
    }

-- `step`, the live cycle, of a machine with so many rows at the row given
unfoldable pub step_at : RomRow → ℕ → Cursor → Step
step_at row count c = commit row c (arm_of row.kind row c.micro_pc count (accumulator c.regs) c.regs c.ram)

-- the live cycle, at row micro_pc
unfoldable pub live : List ℕ → Cursor → Step
live rows c = step_at (row_at rows c.micro_pc.0) (length rows) c

-- `frozen_record`, the padding cycle, at the row given: micro_pc, cycles, halted, output and next_fetch stay
unfoldable pub frozen_at : RomRow → Cursor → Step
frozen_at row c =
    let e = padding_arm row c.next_fetch c.output c.regs in
    record {
      shown = record_of row c.next_fetch e c.regs c.ram;
      after =
          record {
            regs = regs_after e c.regs;
            ram = ram_after e c.ram;
            micro_pc = c.micro_pc;
            cycles = c.cycles;
            halted = c.halted;
            output = c.output;
            next_fetch = c.next_fetch;
          };
    }

-- the padding cycle, at row next_fetch
unfoldable pub padding : List ℕ → Cursor → Step
padding rows c = frozen_at (row_at rows c.next_fetch.0) c

-- a cycle of a segment: live until halted, then padding
unfoldable pub cycle : List ℕ → Cursor → Step
cycle rows c = cond c.halted (padding rows c) (live rows c)
