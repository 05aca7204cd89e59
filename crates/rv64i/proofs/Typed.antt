-- The cells of a cursor are words: of a fresh one, and after every cycle. Assumes nothing.
use mathlib.Core.Path.{◌≡◌, refl}
use mathlib.Core.Bool.{Bool, true, false, cond}
use mathlib.Core.List.{List, [], ◌∷◌, ◌++◌}
use Prim.Native.Nat.{ℕ, zero, suc, ◌^◌, ◌<◌}
use native.Mathlib.Omega.{arith}
use lib.ListN.{length, get_or, set, take, replicate}
use lib.Dec.{eqb}
use Rattle.expand.specs.declared.RomRow.{RomRow}
use Rattle.expand.specs.declared.VirtualKind.{VirtualKind}
use Rattle.expand.specs.declared.VirtualKind.TheVariants.{Alu, ShiftStage, Load, Store, Branch, Upper, Jump, System}
use Rattle.expand.proofs.Laws.{laws as expanded}
use Rattle.expand.specs.declared.MicroPc.{MicroPc}
use Rattle.interp.specs.Values.{stage_value}
use Rattle.interp.specs.declared.Cursor.{Cursor}
use Rattle.interp.specs.Machine.{row_at, loaded, start_of, cell}
use Rattle.interp.specs.Laws.{Sized}
use Rattle.interp.proofs.Above.{laws}
use Rattle.interp.specs.Cycle.{redirect, accumulator, stores, alu_arm, stage_effect, stage_arm, load_arm, store_arm, branch_arm, upper_arm, jump_arm, system_arm, arm_of, padding_arm, scratched, regs_after, ram_after, commit, step_at, live, frozen_at, padding}
use Rattle.rv64i.specs.Agreement.{Typed}
use Rattle.rv64i.proofs.Bounds.{cond_lt, stage_lt, alu_lt, load_lt, store_lt, upper_lt}

-- ---- lists of words

-- all of them words
abbrev Words : List ℕ → Type 0
Words l = (i : ℕ) → get_or l i 0 < 2 ^ 64

set_words : (l : List ℕ) (i v : ℕ) → Words l → v < 2 ^ 64 → Words (set l i v)
set_words [] i v h hv j = h j
set_words (x ∷ l) zero v h hv zero = hv
set_words (x ∷ l) zero v h hv (suc j) = h (suc j)
set_words (x ∷ l) (suc i) v h hv zero = h zero
set_words (x ∷ l) (suc i) v h hv (suc j) = set_words l i v (λ k. h (suc k)) hv j

choice_words : (t : Bool) (x y : List ℕ) → Words x → Words y → Words (cond t x y)
choice_words true x y hx hy = hx
choice_words false x y hx hy = hy

take_words : (n : ℕ) (l : List ℕ) → Words l → Words (take n l)
take_words zero l h j = omega arith
take_words (suc n) [] h j = h j
take_words (suc n) (x ∷ l) h zero = h zero
take_words (suc n) (x ∷ l) h (suc j) = take_words n l (λ k. h (suc k)) j

append-words : (l m : List ℕ) → Words l → Words m → Words (l ++ m)
append-words [] m hl hm j = hm j
append-words (x ∷ l) m hl hm zero = hl zero
append-words (x ∷ l) m hl hm (suc j) = append-words l m (λ k. hl (suc k)) hm j

zero-words : (n : ℕ) → Words (replicate n 0)
zero-words zero j = omega arith
zero-words (suc n) zero = omega arith
zero-words (suc n) (suc j) = zero-words n j

-- ---- the fresh cursor

pub fresh : (input : List ℕ) → ((i : ℕ) → cell input i < 2 ^ 64) → Typed (start_of input)
unfolding start_of loaded
fresh input h =
    let size = laws.start_sized input in
    record {
      regs = size.regs;
      ram = size.ram;
      reg_words = zero-words 64;
      ram_words = take_words 256 (input ++ replicate 256 0) (append-words input (replicate 256 0) h (zero-words 256));
      output = omega arith;
    }

-- ---- the effect of a row, by its kind

module _ (row : RomRow) (mp : MicroPc) (count acc : ℕ) (regs ram : List ℕ) (imm : row.imm < 2 ^ 64) (ha : acc < 2 ^ 64) (hr : Words regs) (hm : Words ram) where
  -- what it writes to a register, to RAM, and to the accumulator
  record Small (k : VirtualKind) : Type 0 where
    value : (arm_of k row mp count acc regs ram).write.rd_val < 2 ^ 64
    new : (arm_of k row mp count acc regs ram).access.ram_new < 2 ^ 64
    scratch : (cells : List ℕ) → Words cells → Words (scratched (arm_of k row mp count acc regs ram).scratch cells)

  small : (k : VirtualKind) → Small k
  unfolding arm_of alu_arm stage_arm stage_effect load_arm store_arm branch_arm upper_arm jump_arm system_arm scratched
  small Alu =
      record { value = alu_lt row.funct3 row.raw _ _ row.imm (hr row.rs1) (hr row.rs2) imm; new = omega arith; scratch = λ cells h. h }
  small (ShiftStage k) = by (eqb k 5) refl
    where
      value : stage_value k row.funct3 row.raw (cond (eqb k 0) (cell regs row.rs1) acc) (cell regs row.rs2) < 2 ^ 64
      value = stage_lt k row.funct3 row.raw _ _ (cond_lt (eqb k 0) (hr row.rs1) ha)

      by : (t : Bool) → eqb k 5 ≡ t → Small (ShiftStage k)
      by true e = record { value = rw e value; new = rw e (omega arith); scratch = λ cells h. rw e h }
      by false e = record { value = rw e (hr 32); new = rw e (omega arith); scratch = λ cells h. rw e (set_words cells 0 _ h value) }
  small Load = record { value = load_lt row.funct3 _ _ (hm _); new = omega arith; scratch = λ cells h. h }
  small Store = record { value = hr 32; new = store_lt row.funct3 _ _ _ (hm _); scratch = λ cells h. h }
  small Branch = record { value = hr 32; new = omega arith; scratch = λ cells h. h }
  small Upper = record { value = upper_lt row.raw row.imm mp imm; new = omega arith; scratch = λ cells h. h }
  small Jump = by (eqb row.rd 0) refl
    where
      by : (t : Bool) → eqb row.rd 0 ≡ t → Small Jump
      by true e = record { value = rw e (hr 32); new = rw e (omega arith); scratch = λ cells h. rw e h }
      by false e = record { value = rw e (omega arith); new = rw e (omega arith); scratch = λ cells h. rw e h }
  small System = record { value = hr 10; new = omega arith; scratch = λ cells h. h }

-- ---- the cycles

sized : (c : Cursor) → Typed c → Sized c
sized c h = record { regs = h.regs; ram = h.ram }

pub live_kept : (rows : List ℕ) (c : Cursor) → Typed c → Typed (live rows c).after
unfolding live step_at commit regs_after ram_after
live_kept rows c h =
    let mp = c.micro_pc in
    let row = row_at rows mp.0 in
    let acc = accumulator c.regs in
    let s = small row mp (length rows) acc c.regs c.ram (expanded.imm (get_or rows mp.0 0)) (h.reg_words 0) h.reg_words h.ram_words row.kind in
    let e = arm_of row.kind row mp (length rows) acc c.regs c.ram in
    let size = laws.live_sized rows c (sized c h) in
    record {
      regs = size.regs;
      ram = size.ram;
      reg_words = s.scratch _ (set_words c.regs e.write.rd _ h.reg_words s.value);
      ram_words = choice_words (stores e.shown.flags) _ c.ram (set_words c.ram e.access.ram_addr _ h.ram_words s.new) h.ram_words;
      output = cond_lt e.halts s.value h.output;
    }

pub padding_kept : (rows : List ℕ) (c : Cursor) → Typed c → Typed (padding rows c).after
unfolding padding frozen_at padding_arm regs_after scratched ram_after
padding_kept rows c h =
    let size = laws.padding_sized rows c (sized c h) in
    record {
      regs = size.regs;
      ram = size.ram;
      reg_words = set_words c.regs (redirect (row_at rows c.next_fetch.0).rd) c.output h.reg_words h.output;
      ram_words = h.ram_words;
      output = h.output;
    }
