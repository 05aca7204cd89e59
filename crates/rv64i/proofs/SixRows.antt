-- A register shift over its six rows agrees with the manual. Assumes nothing.
use mathlib.Core.Path.{◌≡◌, refl, ap, ap₂, sym, ◌∙◌}
use mathlib.Core.Bool.{Bool, true, false, cond}
use mathlib.Core.List.{List}
use Prim.Native.Nat.{ℕ, zero, suc, ◌+◌, ◌-◌, ◌%◌, ◌^◌, ◌<◌}
use native.Mathlib.Nat.{add-zero, mod-eq_of_lt, zero-div}
use native.Mathlib.Omega.{arith}
use lib.ListN.{length, set}
use lib.Seq.{set-get_or, set-set, get_or-set_same, get_or-set_other}
use lib.Dec.{eqb}
use borrow.Author.Tests.{ne_eqb}
use Rattle.decode.specs.Manual as manual
use Rattle.decode.specs.Manual.{OP, rd, rs1, rs2, Word}
use Rattle.decode.specs.Decode.{decode_of}
use Rattle.decode.specs.Claims.{class_of}
use Rattle.decode.specs.declared.Inst.{Inst}
use Rattle.expand.specs.Rows.{shifts, stage_row, row_as, row_of_inst}
use Rattle.expand.specs.declared.MicroPc.{MicroPc}
use Rattle.expand.specs.declared.RomRow.{RomRow}
use Rattle.interp.specs.Values as values
use Rattle.interp.specs.Values.{signed_right, shift_at, stage_value}
use Rattle.interp.specs.Readings.{stages_value}
use Rattle.interp.specs.declared.Cursor.{Cursor}
use Rattle.interp.specs.declared.CycleRecord.{CycleRecord}
use Rattle.interp.specs.Machine.{row_at, at, cell}
use Rattle.interp.specs.Cycle.{row_after, redirect, stage_effect, stage_arm, arm_of, record_of, scratched, regs_after, ram_after, Step, commit, step_at, live}
use Rattle.interp.specs.Calls.{end}
use Rattle.interp.specs.Laws.{Running}
use Rattle.interp.proofs.Above.{laws, readings}
use Rattle.rv64i.specs.Manual.{put, Shift, SLL, SRL, SRA, shift, IsShift, shift_value, x_rs1, x_rs2}
use Rattle.rv64i.specs.Agreement.{bytes, state_of, cycles, after, shown, At, Shifts}
use Rattle.rv64i.proofs.Words.{signed_right_is}
use Rattle.rv64i.proofs.Cells.{state, registers, cell-write, past_0}
use Rattle.rv64i.proofs.Rows.{fields, decoded_as, inside, row-at, op_shift, six_rows}
use Rattle.rv64i.proofs.Steps.{operand, redirect_not_0, showing}
use Rattle.rv64i.proofs.Alu.{funct7_of}

-- ---- the value

shift-agrees : (i : Shift) (inst a b : ℕ) → IsShift i inst → a < 2 ^ 64 → values.shift (manual.funct3 inst) inst a (b % 2 ^ 6) ≡ (shift i).gives a b
unfolding shift_at
shift-agrees SLL inst a b e h = rw e.encoded.funct3
shift-agrees SRL inst a b e h = rw (e.encoded.funct3, funct7_of e)
shift-agrees SRA inst a b e h = rw (e.encoded.funct3, funct7_of e) (signed_right_is a (b % 2 ^ 6) h)

pub shifting : (i : Shift) → shifts (shift i).funct3 ≡ true
shifting SLL = refl
shifting SRL = refl
shifting SRA = refl

-- zero is shifted to zero
shift_zero : (l r t : Bool) (k : ℕ) → shift_at l r t 0 k ≡ 0
unfolding shift_at signed_right
shift_zero true r t k = omega arith
shift_zero false true true k = zero-div (2 ^ k)
shift_zero false true false k = zero-div (2 ^ k)
shift_zero false false t k = refl

-- a stage after the first takes the shift by the k low bits of b to that by one more
one_stage : (k f raw a b : ℕ) → 0 < k → k < 6 → stage_value k f raw (values.shift f raw a (b % 2 ^ k)) b ≡ values.shift f raw a (b % 2 ^ suc k)
unfolding stages_value
one_stage zero f raw a b p l = absurd (omega arith)
one_stage (suc k) f raw a b p l =
    ap (λ (x : ℕ). stage_value (suc k) f raw x b) (sym (readings.stages k f raw a b (omega arith))) ∙ readings.stages (suc k) f raw a b l

-- ---- what a stage leaves

module _ (k : ℕ) (row : RomRow) (next : MicroPc) (v : ℕ) (regs ram : List ℕ) (early : k < 5) where
  -- cell 32 gets its own content, cell 0 the accumulator
  early_regs : scratched (stage_effect k row next v regs).scratch (regs_after (stage_effect k row next v regs) regs) ≡ set regs 0 v
  unfolding stage_effect regs_after scratched
  early_regs = rw (ne_eqb k 5 (omega arith)) (ap (λ (cells : List ℕ). set cells 0 v) (set-get_or regs 32 0))

  early_ram : ram_after (stage_effect k row next v regs) ram ≡ ram
  unfolding stage_effect ram_after
  early_ram = rw (ne_eqb k 5 (omega arith))

  early_halts : (stage_effect k row next v regs).halts ≡ false
  unfolding stage_effect
  early_halts = rw (ne_eqb k 5 (omega arith))

  early_next : (stage_effect k row next v regs).next_pc ≡ next
  unfolding stage_effect
  early_next = rw (ne_eqb k 5 (omega arith))

-- ---- the six rows

module _ (rows : List ℕ) (inst : ℕ) (c : Cursor) (h : At rows inst c) (w : Word OP inst) (s : shifts (manual.funct3 inst) ≡ true) where
  six : cycles inst ≡ 6
  six = ap length (six_rows inst (op_shift true inst w s))

  -- the instruction, and the row of its stage k
  abbrev decoded : Inst
  decoded = fields (class_of OP inst) (decode_of inst).imm inst

  stage-row : (k : ℕ) → k < 6 → row_at rows (c.micro_pc.0 + k) ≡ stage_row decoded k
  unfolding row_as
  stage-row k l =
      row-at rows inst c h k w.fits (omega (arith, six))
      ∙ ap (λ (d : Inst). row_of_inst d k) (decoded_as OP inst (decode_of inst).imm w refl) ∙ rw s

  -- the operands, and the accumulator after k stages
  abbrev a : ℕ
  a = cell c.regs (rs1 inst)

  abbrev b : ℕ
  b = cell c.regs (rs2 inst)

  abbrev acc : ℕ → ℕ
  acc k = values.shift (manual.funct3 inst) inst a (b % 2 ^ k)

  -- a cursor before stage k, with x in cell 0
  record Staged (k x : ℕ) (d : Cursor) : Type 0 where
    pc : d.micro_pc.0 ≡ c.micro_pc.0 + k
    regs : d.regs ≡ set c.regs 0 x
    ram : d.ram ≡ c.ram

  -- the value of a stage
  abbrev staged : ℕ → Cursor → ℕ
  staged k d = stage_value k (manual.funct3 inst) inst (cond (eqb k 0) (cell d.regs (rs1 inst)) (cell d.regs 0)) (cell d.regs (rs2 inst))

  live_is : (k x : ℕ) (d : Cursor) → k < 6 → Staged k x d → live rows d ≡ step_at (stage_row decoded k) (length rows) d
  unfolding live
  live_is k x d l g = ap (λ (r : RomRow). step_at r (length rows) d) (ap (row_at rows) g.pc ∙ stage-row k l)

  on : (k x : ℕ) (d : Cursor) → k < 5 → Staged k x d → Staged (suc k) (staged k d) (live rows d).after
  unfolding step_at arm_of stage_arm commit
  on k x d l g =
      let e = live_is k x d (omega arith) g in
      let n = row_after d.micro_pc (length rows) in
      record {
        pc =
            ap (λ (t : Step). t.after.micro_pc.0) e ∙ ap (λ (p : MicroPc). p.0) (early_next k (stage_row decoded k) n (staged k d) d.regs d.ram l)
            ∙ mod-eq_of_lt (omega (arith, inside rows inst c h, six, g.pc)) ∙ omega (arith, g.pc);
        regs =
            ap (λ (t : Step). t.after.regs) e ∙ early_regs k (stage_row decoded k) n (staged k d) d.regs d.ram l
            ∙ ap (λ (cells : List ℕ). set cells 0 (staged k d)) g.regs ∙ set-set c.regs 0 x (staged k d);
        ram = ap (λ (t : Step). t.after.ram) e ∙ early_ram k (stage_row decoded k) n (staged k d) d.regs d.ram l ∙ g.ram;
      }

  begun : Staged 0 (cell c.regs 0) c
  begun = record { pc = sym (add-zero c.micro_pc.0); regs = sym (set-get_or c.regs 0 0); ram = refl }

  -- ---- none of them halts

  stage-live : (k x : ℕ) (d : Cursor) → k < 5 → Staged k x d → (live rows d).after.halted ≡ false
  unfolding step_at arm_of stage_arm commit
  stage-live k x d l g =
      ap (λ (t : Step). t.after.halted) (live_is k x d (omega arith) g)
      ∙ early_halts k (stage_row decoded k) (row_after d.micro_pc (length rows)) (staged k d) d.regs d.ram l

  all-running : (n k x : ℕ) (d : Cursor) → k + n ≡ 6 → Staged k x d → d.halted ≡ false → Running rows n d
  unfolding end
  all-running n k x d e g z zero l = z
  all-running zero k x d e g z (suc j) l = absurd (omega arith)
  all-running (suc n) k x d e g z (suc j) l =
      all-running n (suc k) (staged k d) (live rows d).after (omega arith) (on k x d (omega arith) g) (stage-live k x d (omega arith) g) j (omega arith)

  pub six_running : c.halted ≡ false → Running rows (cycles inst) c
  six_running z k l = all-running 6 0 (cell c.regs 0) c refl begun z k (omega (arith, six))

  -- ---- the value, where rs2 is not x0

  module _ (h2 : 0 < rs2 inst) where
    -- a stage finds the accumulator in cell 0, and rs2 where it was
    later_value : (k : ℕ) (d : Cursor) → 0 < k → k < 6 → Staged k (acc k) d → staged k d ≡ acc (suc k)
    later_value k d p l g =
        rw (ne_eqb k 0 (omega arith), g.regs, get_or-set_same c.regs 0 (acc k) 0 (omega (arith, h.typed.regs)), get_or-set_other c.regs 0 (rs2 inst) (acc k) 0 (omega arith))
        (one_stage k (manual.funct3 inst) inst a b p l)

    -- the first takes the operand
    first_value : staged 0 c ≡ acc 1
    unfolding stages_value
    first_value = readings.stages 0 (manual.funct3 inst) inst a b (omega arith)

    first-stage : Staged 1 (acc 1) (live rows c).after
    first-stage = rw first_value at (on 0 (cell c.regs 0) c (omega arith) begun)

    later-stage : (k : ℕ) (d : Cursor) → 0 < k → k < 5 → Staged k (acc k) d → Staged (suc k) (acc (suc k)) (live rows d).after
    later-stage k d p l g = rw (later_value k d p (omega arith) g) at (on k (acc k) d l g)

    -- ---- the cursor before each stage

    -- what cell 0 holds there
    abbrev held : ℕ → ℕ
    held zero = cell c.regs 0
    held (suc k) = acc (suc k)

    none : end (live rows) 0 c ≡ c
    unfolding end
    none = refl

    one_more : (n : ℕ) → end (live rows) (suc n) c ≡ (live rows (end (live rows) n c)).after
    one_more n = laws.one_more (live rows) n c

    before : (k : ℕ) → k < 6 → Staged k (held k) (end (live rows) k c)
    before zero l = rw none begun
    before (suc zero) l = rw (one_more 0, none) first-stage
    before (suc (suc k)) l = rw (one_more (suc k)) (later-stage (suc k) _ (omega arith) (omega arith) (before (suc k) (omega arith)))

    record_at : (k : ℕ) → k < 6 → live rows (end (live rows) k c) ≡ step_at (stage_row decoded k) (length rows) (end (live rows) k c)
    record_at k l = live_is k (held k) (end (live rows) k c) l (before k l)

    -- a register other than x0 is where it was; as x0 counts a zero accumulator
    cell-kept : (r x : ℕ) → (r ≡ 0 → x ≡ cell c.regs 0) → cell (set c.regs 0 x) r ≡ cell c.regs r
    cell-kept zero x p = get_or-set_same c.regs 0 x 0 (omega (arith, h.typed.regs)) ∙ p refl
    cell-kept (suc r) x p = get_or-set_other c.regs 0 (suc r) x 0 (omega arith)

    held_zero : (k : ℕ) → rs1 inst ≡ 0 → held k ≡ cell c.regs 0
    held_zero zero e = refl
    held_zero (suc k) e = rw (e, h.zero) (shift_zero (eqb (manual.funct3 inst) 1) (eqb (manual.funct3 inst) 5) (values.alternate inst) (b % 2 ^ suc k))

    first-at : (k : ℕ) → k < 6 → cell (end (live rows) k c).regs (rs1 inst) ≡ x_rs1 inst (state_of c)
    first-at k l =
        ap (λ (cells : List ℕ). cell cells (rs1 inst)) (before k l).regs
        ∙ cell-kept (rs1 inst) (held k) (held_zero k) ∙ operand rows inst c h (rs1 inst) (omega arith)

    second_at : (k : ℕ) → k < 6 → cell (end (live rows) k c).regs (rs2 inst) ≡ x_rs2 inst (state_of c)
    second_at k l =
        ap (λ (cells : List ℕ). cell cells (rs2 inst)) (before k l).regs
        ∙ cell-kept (rs2 inst) (held k) (λ e. absurd (omega arith)) ∙ operand rows inst c h (rs2 inst) (omega arith)

    -- ---- the last stage

    abbrev fifth : Cursor
    fifth = end (live rows) 5 c

    five : Staged 5 (acc 5) fifth
    five = before 5 (omega arith)

    cursor_is : after rows inst c ≡ (step_at (stage_row decoded 5) (length rows) fifth).after
    cursor_is = ap (λ (k : ℕ). end (live rows) k c) six ∙ one_more 5 ∙ ap (λ (t : Step). t.after) (record_at 5 (omega arith))

    record_is : shown rows inst c ≡ (step_at (stage_row decoded 5) (length rows) fifth).shown
    record_is = ap (λ (k : ℕ). (live rows (end (live rows) (k - 1) c)).shown) six ∙ ap (λ (t : Step). t.shown) (record_at 5 (omega arith))

    -- registers past cell 0 and memory are as before the first stage
    state-kept : state_of fifth ≡ state_of c
    state-kept = ap₂ state (ap registers five.regs ∙ past_0 c.regs (acc 5)) (ap bytes five.ram)

    -- the accumulator by n bits of the amount is the manual's shift by them
    acc_is : (i : Shift) → IsShift i inst → (n : ℕ) → b % 2 ^ n % 2 ^ 6 ≡ b % 2 ^ n → acc n ≡ (shift i).gives (x_rs1 inst (state_of c)) (x_rs2 inst (state_of c) % 2 ^ n)
    acc_is i e n m =
        ap (values.shift (manual.funct3 inst) inst a) (sym m) ∙ shift-agrees i inst a (b % 2 ^ n) e (h.typed.reg_words (rs1 inst))
        ∙ ap₂ (λ (x y : ℕ). (shift i).gives x (y % 2 ^ n)) (operand rows inst c h (rs1 inst) (omega arith)) (operand rows inst c h (rs2 inst) (omega arith))

    pub shifts-agree : (i : Shift) → IsShift i inst → Shifts rows inst c i
    unfolding step_at arm_of stage_arm stage_effect commit record_of regs_after scratched ram_after
    shifts-agree i e =
        let v : staged 5 fifth ≡ shift_value i inst (state_of c) =
        later_value 5 fifth (omega arith) (omega arith) five ∙ shift-agrees i inst a b e (h.typed.reg_words (rs1 inst))
        ∙ ap₂ (shift i).gives (operand rows inst c h (rs1 inst) (omega arith)) (operand rows inst c h (rs2 inst) (omega arith)) in
        record {
          running = ap (λ (d : Cursor). d.halted) cursor_is;
          next = ap (λ (d : Cursor). d.micro_pc) cursor_is ∙ ap (λ (n : ℕ). at (n % length rows)) (omega (arith, five.pc, six));
          writes = record {
            state =
                ap state_of cursor_is ∙ cell-write fifth.regs (bytes fifth.ram) (rd inst) (staged 5 fifth) (omega arith)
                ∙ ap₂ (put (rd inst)) v state-kept;
            rd = ap (λ (r : CycleRecord). r.rd) record_is;
            rd_val = ap (λ (r : CycleRecord). r.rd_val) record_is ∙ v;
          };
          rs1_val = λ k l. let m : k < 6 = omega (arith, six) in ap (λ (t : Step). t.shown.rs1_val) (record_at k m) ∙ first-at k m;
          rs2_val = λ k l. let m : k < 6 = omega (arith, six) in ap (λ (t : Step). t.shown.rs2_val) (record_at k m) ∙ second_at k m;
          shows = showing _ _ _ _ _ record_is (first-at 5 (omega arith)) (second_at 5 (omega arith)) v;
          cell_0 =
              ap (λ (d : Cursor). cell d.regs 0) cursor_is
              ∙ get_or-set_other fifth.regs (redirect (rd inst)) 0 (staged 5 fifth) 0 (redirect_not_0 (rd inst))
              ∙ ap (λ (cells : List ℕ). cell cells 0) five.regs ∙ get_or-set_same c.regs 0 (acc 5) 0 (omega (arith, h.typed.regs))
              ∙ acc_is i e 5 (omega arith);
        }
