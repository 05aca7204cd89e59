-- What an arm owes, `Lawful`: each arm has one law, and nothing past this file looks at an arm. No law opens a value. Assumes nothing.
use Rattle.std.proofs.Common.{◌≡◌, ℕ, zero, suc, ◌%◌, ◌<◌, Bool, true, false, cond, eqb, List, refl, mod-lt, arith, ne_eqb}
use borrow.Author.Tests.{eqb-false}
use Rattle.expand.specs.Rows.{row_of}
use Rattle.expand.specs.declared.MicroPc.{MicroPc}
use Rattle.expand.specs.declared.RomRow.{RomRow}
use Rattle.expand.specs.declared.VirtualKind.{VirtualKind}
use Rattle.expand.specs.declared.VirtualKind.TheVariants.{Alu, ShiftStage, Load, Store, Branch, Upper, Jump, System}
use Rattle.expand.proofs.Laws.{laws}
use Rattle.interp.specs.declared.effect.Effect.{Effect}
use Rattle.std.specs.Prelude.{Option}
use Rattle.interp.specs.declared.effect.Shown.{Shown}
use Rattle.interp.specs.declared.effect.Write.{Write}
use Rattle.interp.specs.Values.{branch_taken}
use Rattle.interp.specs.Machine.{cell}
use Rattle.interp.specs.Cycle.{row_after, redirect, no_access, alu_arm, stage_effect, stage_arm, load_arm, store_arm, branch_arm, upper_arm, jump_target, jump_arm, system_arm, arm_of, padding_arm}
use Rattle.interp.specs.Code.{InRange, Sound}
use Rattle.interp.proofs.arms.Flags.{cond_lt, alu_flags_lt, load_flag_lt, branch_flags_lt}
use Rattle.interp.proofs.values.Targets.{target_lt}
use Rattle.interp.proofs.values.Widths.{width_at_most}

-- what an arm owes, with so many rows: its cell, address, flags and next row are within bounds, and so are the parts of word 16;
-- its cell is not cell 0
pub record Lawful (count : ℕ) (e : Effect) : Type 0 where
  pub sound : Sound e
  pub not_x0 : 0 < e.write.rd
  pub offset : e.access.byte_offset < 256
  pub width : e.access.store_width < 256
  pub next : e.next_pc.0 < count

-- ---- tests

cond_lawful : {count : ℕ} (b : Bool) {d e : Effect} → Lawful count d → Lawful count e → Lawful count (cond b d e)
cond_lawful true p q = p
cond_lawful false p q = q

-- ---- the parts of an effect

pub redirect_lt : (rd : ℕ) → rd < 32 → redirect rd < 64
redirect_lt rd h = cond_lt (eqb rd 0) (omega arith) (omega arith)

redirect_pos : (rd : ℕ) → 0 < redirect rd
redirect_pos zero = omega arith
redirect_pos (suc rd) = rw (ne_eqb (suc rd) 0 (omega arith)) (omega arith)

-- a row that is picked from two is inside if both are
pub next_of : (b : Bool) {x y : MicroPc} {n : ℕ} → x.0 < n → y.0 < n → (cond b x y).0 < n
next_of true p q = p
next_of false p q = q

-- an arm without an access to RAM owes its cell, its flags and its next row
no_access_lem : {count : ℕ} {w : Write} {s : Shown} {x : Option ℕ} {next : MicroPc} {h : Bool}
    → w.rd < 64 → 0 < w.rd → s.flags < 0x1000 → next.0 < count
    → Lawful count (record { write = w; access = no_access; shown = s; scratch = x; next_pc = next; halts = h })
no_access_lem p z q r =
    record { sound = record { rd = p; addr = omega arith; flags = q }; not_x0 = z; offset = omega arith; width = omega arith; next = r }

-- ---- the law of each arm, at row mp of so many rows, with a destination x0 to x31

module _ (row : RomRow) (mp : MicroPc) (count : ℕ) (regs : List ℕ) (small : row.rd < 32) (inside : mp.0 < count) where
  some-row : 0 < count
  some-row = omega arith

  to_lt : redirect row.rd < 64
  to_lt = redirect_lt row.rd small

  to_pos : 0 < redirect row.rd
  to_pos = redirect_pos row.rd

  next_lt : (row_after mp count).0 < count
  next_lt = mod-lt (suc mp.0) some-row

  jump_lt : (a : ℕ) → (jump_target row mp count a).0 < count
  jump_lt a = next_of (eqb (row.raw % 0x80) 0x67) (target_lt _ count some-row) (target_lt _ count some-row)

  alu_lawful : Lawful count (alu_arm row (row_after mp count) regs)
  unfolding alu_arm
  alu_lawful = no_access_lem to_lt to_pos (omega (arith, alu_flags_lt row.funct3 row.raw)) next_lt

  stage_lawful : (k acc : ℕ) → Lawful count (stage_arm k row (row_after mp count) acc regs)
  unfolding stage_arm stage_effect
  stage_lawful k acc =
      cond_lawful (eqb k 5) (no_access_lem to_lt to_pos (omega arith) next_lt) (no_access_lem (omega arith) (omega arith) (omega arith) next_lt)

  load_lawful : (ram : List ℕ) → Lawful count (load_arm row (row_after mp count) regs ram)
  unfolding load_arm
  load_lawful ram =
      record {
        sound = record { rd = to_lt; addr = mod-lt _ (omega arith); flags = omega (arith, load_flag_lt row.funct3) };
        not_x0 = to_pos;
        offset = omega arith;
        width = omega arith;
        next = next_lt;
      }

  store_lawful : (ram : List ℕ) → Lawful count (store_arm row (row_after mp count) regs ram)
  unfolding store_arm
  store_lawful ram =
      record {
        sound = record { rd = omega arith; addr = mod-lt _ (omega arith); flags = omega arith };
        not_x0 = omega arith;
        offset = omega arith;
        width = omega (arith, width_at_most row.funct3);
        next = next_lt;
      }

  branch_lawful : Lawful count (branch_arm row mp count (row_after mp count) regs)
  unfolding branch_arm
  branch_lawful =
      let taken = branch_taken row.funct3 (cell regs row.rs1) (cell regs row.rs2) in
      no_access_lem (omega arith) (omega arith) (branch_flags_lt taken) (next_of taken (target_lt _ count some-row) next_lt)

  upper_lawful : Lawful count (upper_arm row mp (row_after mp count) regs)
  unfolding upper_arm
  upper_lawful = no_access_lem to_lt to_pos (omega arith) next_lt

  jump_lawful : Lawful count (jump_arm row mp count regs)
  unfolding jump_arm
  jump_lawful = by (eqb row.rd 0) refl
    where
      target : (jump_target row mp count (cell regs row.rs1)).0 < count
      target = jump_lt (cell regs row.rs1)

      by : (t : Bool) → eqb row.rd 0 ≡ t → Lawful count (jump_arm row mp count regs)
      by true e = rw e (no_access_lem (omega arith) (omega arith) (omega arith) target)
      by false e = let z : row.rd ≡ 0 → ⊥ = eqb-false row.rd 0 e in rw e (no_access_lem (omega arith) (omega (arith, z)) (omega arith) target)

  system_lawful : Lawful count (system_arm row mp regs)
  unfolding system_arm
  system_lawful = no_access_lem (omega arith) (omega arith) (omega arith) inside

  -- the law of a live cycle
  pub arm_lawful : (k : VirtualKind) (acc : ℕ) (ram : List ℕ) → Lawful count (arm_of k row mp count acc regs ram)
  unfolding arm_of
  arm_lawful Alu acc ram = alu_lawful
  arm_lawful (ShiftStage k) acc ram = stage_lawful k acc
  arm_lawful Load acc ram = load_lawful ram
  arm_lawful Store acc ram = store_lawful ram
  arm_lawful Branch acc ram = branch_lawful
  arm_lawful Upper acc ram = upper_lawful
  arm_lawful Jump acc ram = jump_lawful
  arm_lawful System acc ram = system_lawful

  -- the law of a padding cycle
  pub padding_lawful : (output : ℕ) → Lawful count (padding_arm row mp output regs)
  unfolding padding_arm
  padding_lawful output = no_access_lem to_lt to_pos (omega arith) inside

-- ---- the registers of any row, for the code that reads them

pub row_in : (word : ℕ) → InRange (row_of word)
row_in word = record { rd = laws.rd word; rs1 = laws.rs1 word; rs2 = laws.rs2 word }
