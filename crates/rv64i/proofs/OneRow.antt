-- Each group of instructions with one row agrees with the manual. Assumes nothing.
use mathlib.Core.Path.{◌≡◌, refl, ap, ap₂, sym, ◌∙◌}
use mathlib.Core.Bool.{Bool, true, false}
use mathlib.Core.List.{List}
use Prim.Native.Nat.{ℕ, ◌/◌, ◌%◌, ◌^◌, ◌<◌, ◌≤◌}
use native.Mathlib.Omega.{arith}
use lib.ListN.{length, set}
use lib.Seq.{get_or-set_same, get_or-set_other}
use lib.Dec.{eqb}
use lib.IntN.{ℤ}
use Rattle.decode.specs.Manual as manual
use Rattle.decode.specs.Manual.{Major, LOAD, OP_IMM, STORE, OP, LUI, BRANCH, rs1, rs2, bits, signed, immediate_i, immediate_s, immediate_b, immediate_u, Word}
use Rattle.decode.specs.Decode.{decode_of}
use Rattle.decode.specs.Claims.{opcode_number, class_of, op_imm, load as load-type, lui as lui-type}
use Rattle.decode.specs.declared.Inst.{Inst}
use Rattle.decode.proofs.Agrees.{agreement as encoding}
use Rattle.expand.specs.Rows.{shifts, alu_row, load_row, store_row, branch_row, upper_row, row_as, row_of_inst}
use Rattle.interp.specs.Values.{plus, second_operand, alu_value, upper_value, ram_addr_of, byte_offset_of, load_value, store_width, store_value, branch_taken}
use Rattle.interp.specs.declared.Cursor.{Cursor}
use Rattle.interp.specs.declared.CycleRecord.{CycleRecord}
use Rattle.interp.specs.Machine.{cell}
use Rattle.interp.specs.Cycle.{alu_arm, load_flags, load_arm, store_arm, branch_flags, branch_arm, upper_arm, arm_of, record_of, scratched, regs_after, stores as storing, ram_after, commit, step_at}
use Rattle.interp.proofs.Above.{laws}
use Rattle.rv64i.specs.Manual.{low, sum, difference, Immediate, immediate, IsImmediate, immediate_value, ConstantShift, constant_shift, IsConstantShift, constant_shift_value, shamt, Operation, ADD, SUB, SLT, SLTU, XOR, OR, AND, operation, IsOperation, operation_value, IsLui, lui_value, Load, load, IsLoad, loaded_value, load_address, Store, store, IsStore, stored, store_address, Branch, BEQ, BNE, BLT, BGE, BLTU, BGEU, branch, IsBranch, taken, x_rs1, x_rs2, i_immediate, s_immediate}
use Rattle.rv64i.specs.Agreement.{bytes, state_of, ZeroCell, after, shown, taken_flag, At, Accesses, Operates, Computes, Places, Loads, Stores, Branches, most, InWord}
use Rattle.rv64i.proofs.Words.{low_lt, minus_is, less_is, not_ltb, not_lt_z}
use Rattle.rv64i.proofs.Cells.{state, registers, past_31}
use Rattle.rv64i.proofs.Rows.{fields, decoded_as, immediate_is, no_shift, op_shift}
use Rattle.rv64i.proofs.Steps.{Took, took, operand, showing, at_next, done}
use Rattle.rv64i.proofs.Alu.{number_of, immediate-agrees, constant_agrees, operation-agrees}
use Rattle.rv64i.proofs.Access.{load-agrees, load_quiet, width-agrees, store-agrees}

-- ---- branch conditions

condition-agrees : (i : Branch) (a b : ℕ) → a < 2 ^ 64 → b < 2 ^ 64 → branch_taken (branch i).funct3 a b ≡ (branch i).gives a b
unfolding branch_taken
condition-agrees BEQ a b ha hb = refl
condition-agrees BNE a b ha hb = refl
condition-agrees BLT a b ha hb = less_is a b ha hb
condition-agrees BGE a b ha hb = rw (less_is a b ha hb) (not_lt_z (signed 64 a) (signed 64 b))
condition-agrees BLTU a b ha hb = refl
condition-agrees BGEU a b ha hb = not_ltb a b

-- the flags of a branch: bit 1 says whether it is taken, and it stores nothing
flag_taken : (t : Bool) → eqb (branch_flags t / 2 % 2) 1 ≡ t
flag_taken true = refl
flag_taken false = refl

branch_quiet : (t : Bool) → storing (branch_flags t) ≡ false
branch_quiet true = refl
branch_quiet false = refl

-- none of the operations of one row is a shift
plain : (i : Operation) → shifts (operation i).funct3 ≡ false
plain ADD = refl
plain SUB = refl
plain SLT = refl
plain SLTU = refl
plain XOR = refl
plain OR = refl
plain AND = refl

-- ---- the groups

module _ (rows : List ℕ) (inst : ℕ) (c : Cursor) (h : At rows inst c) where
  -- what the registers of the instruction hold
  first : cell c.regs (rs1 inst) ≡ x_rs1 inst (state_of c)
  first = operand rows inst c h (rs1 inst) (omega arith)

  second : cell c.regs (rs2 inst) ≡ x_rs2 inst (state_of c)
  second = operand rows inst c h (rs2 inst) (omega arith)

  first_lt : cell c.regs (rs1 inst) < 2 ^ 64
  first_lt = h.typed.reg_words (rs1 inst)

  second_lt : cell c.regs (rs2 inst) < 2 ^ 64
  second_lt = h.typed.reg_words (rs2 inst)

  -- the cycle of a word of a class other than Op, whose immediate reads as z
  single : (m : Major) (z : ℤ) → Word m inst → eqb (opcode_number (class_of m inst)) 0x33 ≡ false → signed 64 (decode_of inst).imm ≡ z
      → Took rows inst c (step_at (row_of_inst (fields (class_of m inst) (low z) inst) 0) (length rows) c)
  single m z w n e =
      took rows inst c _ h w.fits (no_shift m inst w n)
      (ap (λ (d : Inst). row_of_inst d 0) (decoded_as m inst (low z) w (immediate_is m inst z w e)))

  -- ---- an ALU row with an immediate

  -- the value that it computes
  abbrev value : ℕ → ℕ
  value imm = alu_value (manual.funct3 inst) inst (cell c.regs (rs1 inst)) (second_operand inst (cell c.regs (rs2 inst)) imm)

  computes : (v : ℕ) → Word OP_IMM inst → value (i_immediate inst) ≡ v → Computes rows inst c v
  unfolding row_as step_at arm_of alu_arm commit record_of
  computes v w e =
      let imm = i_immediate inst in
      let row = alu_row (fields (class_of OP_IMM inst) imm inst) in
      let t = single OP_IMM (immediate_i inst) w refl (encoding.i_immediate OP_IMM op_imm inst w) in
      let q = laws.alu_quiet (manual.funct3 inst) inst in
      let p = done rows inst c h row refl (value imm) 0 0 0 0 0 0 _ _ _ _ _ q t v e in
      record {
        goes_on = p.0;
        writes = p.1;
        rs1_val = ap (λ (r : CycleRecord). r.rs1_val) t.record_is ∙ first;
        shows = showing _ _ _ _ _ t.record_is first (rw (number_of w)) e;
      }

  pub immediates : (i : Immediate) → IsImmediate i inst → Computes rows inst c (immediate_value i inst (state_of c))
  immediates i e =
      computes (immediate_value i inst (state_of c)) e.word
      (immediate-agrees i inst _ _ (i_immediate inst) e first_lt (low_lt (immediate_i inst)) ∙ ap (λ (a : ℕ). (immediate i).gives a (i_immediate inst)) first)

  pub constant_shifts : (i : ConstantShift) → IsConstantShift i inst → shamt inst ≤ most i → Computes rows inst c (constant_shift_value i inst (state_of c))
  constant_shifts i e m =
      computes (constant_shift_value i inst (state_of c)) e.encoded.word
      (constant_agrees i inst _ _ e m first_lt ∙ ap (λ (a : ℕ). (constant_shift i).gives a (shamt inst)) first)

  -- ---- an ALU row with two registers

  op_took : Word OP inst → shifts (manual.funct3 inst) ≡ false
      → Took rows inst c (step_at (alu_row (fields (class_of OP inst) (decode_of inst).imm inst)) (length rows) c)
  unfolding row_as
  op_took w n =
      took rows inst c _ h w.fits (op_shift false inst w n)
      (ap (λ (d : Inst). row_of_inst d 0) (decoded_as OP inst (decode_of inst).imm w refl) ∙ rw n)

  pub operations : (i : Operation) → IsOperation i inst → Operates rows inst c (operation_value i inst (state_of c))
  unfolding step_at arm_of alu_arm commit record_of
  operations i e =
      let imm = (decode_of inst).imm in
      let row = alu_row (fields (class_of OP inst) imm inst) in
      let t = op_took e.encoded.word (ap shifts e.encoded.funct3 ∙ plain i) in
      let q = laws.alu_quiet (manual.funct3 inst) inst in
      let v : value imm ≡ operation_value i inst (state_of c) =
      operation-agrees i inst _ _ imm e first_lt second_lt ∙ ap₂ (operation i).gives first second in
      let p = done rows inst c h row refl (value imm) 0 0 0 0 0 0 _ _ _ _ _ q t _ v in
      record {
        goes_on = p.0;
        writes = p.1;
        rs1_val = ap (λ (r : CycleRecord). r.rs1_val) t.record_is ∙ first;
        rs2_val = ap (λ (r : CycleRecord). r.rs2_val) t.record_is ∙ second;
        shows = showing _ _ _ _ _ t.record_is first (rw (number_of e.encoded.word) second) v;
      }

  -- ---- LUI

  pub lui : IsLui inst → bits inst 31 31 ≡ 0 → Places rows inst c (lui_value inst)
  unfolding row_as step_at arm_of upper_arm upper_value commit record_of
  lui w z =
      let row = upper_row (fields (class_of LUI inst) (lui_value inst) inst) in
      let t = single LUI (immediate_u inst) w refl (encoding.u_immediate LUI lui-type inst w z) in
      let v : upper_value inst (lui_value inst) c.micro_pc ≡ lui_value inst = rw (number_of w) in
      let p = done rows inst c h row refl _ 0 0 0 0 0 0 _ _ _ _ _ refl t (lui_value inst) v in
      record {
        goes_on = p.0;
        writes = p.1;
        shows = showing _ _ _ _ _ t.record_is h.zero h.zero v;
      }

  -- ---- loads and stores

  -- the address of an access at an offset, as the values and as the manual have it
  abbrev reached : ℕ → ℕ
  reached offset = plus (cell c.regs (rs1 inst)) offset

  reached_is : (offset : ℕ) → reached offset ≡ sum (x_rs1 inst (state_of c)) offset
  unfolding low
  reached_is offset = ap (λ (a : ℕ). plus a offset) first

  -- a record that shows it
  accesses : (offset : ℕ) (r : CycleRecord) → shown rows inst c ≡ r → r.ram_addr ≡ ram_addr_of (reached offset)
      → r.byte_offset ≡ byte_offset_of (reached offset) → Accesses (shown rows inst c) (sum (x_rs1 inst (state_of c)) offset)
  accesses offset r e addr off =
      record {
        ram_addr = ap (λ (s : CycleRecord). s.ram_addr) e ∙ addr ∙ ap ram_addr_of (reached_is offset);
        byte_offset = ap (λ (s : CycleRecord). s.byte_offset) e ∙ off ∙ ap byte_offset_of (reached_is offset);
      }

  pub loads : (i : Load) → IsLoad i inst → InWord (load_address inst (state_of c)) (load i).gives → Loads rows inst c (loaded_value i inst (state_of c))
  unfolding row_as step_at arm_of load_arm commit record_of
  loads i e l =
      let offset = i_immediate inst in
      let row = load_row (fields (class_of LOAD inst) offset inst) in
      let t = single LOAD (immediate_i inst) e.word refl (encoding.i_immediate LOAD load-type inst e.word) in
      let q : storing (load_flags (manual.funct3 inst)) ≡ false = rw e.funct3 (load_quiet i) in
      let v : load_value (manual.funct3 inst) (cell c.ram (ram_addr_of (reached offset))) (byte_offset_of (reached offset)) ≡ loaded_value i inst (state_of c) =
      rw (e.funct3, reached_is offset) (load-agrees c.ram (load_address inst (state_of c)) h.typed.ram_words i l) in
      let p = done rows inst c h row refl _ _ 0 0 0 _ 0 _ _ _ _ _ q t (loaded_value i inst (state_of c)) v in
      record {
        goes_on = p.0;
        writes = p.1;
        rs1_val = ap (λ (r : CycleRecord). r.rs1_val) t.record_is ∙ first;
        shows = showing _ _ _ _ _ t.record_is first refl (reached_is offset);
        accesses = accesses offset _ t.record_is refl refl;
      }

  -- a cycle that writes only cell 32
  unwritten : (d : Cursor) (v : ℕ) → d.regs ≡ set c.regs 32 v → (registers d.regs ≡ registers c.regs) × ZeroCell d
  unwritten d v e =
      (ap registers e ∙ past_31 c.regs v, ap (λ (regs : List ℕ). cell regs 0) e ∙ get_or-set_other c.regs 32 0 v 0 (omega arith) ∙ h.zero)

  pub stores : (i : Store) → IsStore i inst → InWord (store_address inst (state_of c)) (store i).gives → Stores rows inst c i
  unfolding row_as step_at arm_of store_arm commit record_of regs_after scratched ram_after
  stores i e l =
      let offset = s_immediate inst in
      let row = store_row (fields (class_of STORE inst) offset inst) in
      let t = single STORE (immediate_s inst) e.word refl (encoding.s_immediate inst e.word) in
      let u = unwritten (after rows inst c) _ (ap (λ (d : Cursor). d.regs) t.cursor) in
      let k = ram_addr_of (reached offset) in
      let new = store_value (manual.funct3 inst) (cell c.ram k) (cell c.regs (rs2 inst)) (byte_offset_of (reached offset)) in
      let m : bytes (set c.ram k new) ≡ (stored i inst (state_of c)).memory =
      rw (e.funct3, reached_is offset, second) (store-agrees i c.ram (store_address inst (state_of c)) (x_rs2 inst (state_of c)) h.typed.ram l) in
      let w = ap (λ (r : CycleRecord). r.ram_addr) t.record_is in
      record {
        goes_on = record {
          running = ap (λ (d : Cursor). d.halted) t.cursor;
          next = ap (λ (d : Cursor). d.micro_pc) t.cursor ∙ at_next rows inst c t.one;
          zero = u.1;
        };
        state = ap₂ state u.0 (ap (λ (d : Cursor). bytes d.ram) t.cursor ∙ m);
        rs1_val = ap (λ (r : CycleRecord). r.rs1_val) t.record_is ∙ first;
        rs2_val = ap (λ (r : CycleRecord). r.rs2_val) t.record_is ∙ second;
        shows = showing _ _ _ _ _ t.record_is first refl (reached_is offset);
        accesses = accesses offset _ t.record_is refl refl;
        src = ap (λ (r : CycleRecord). r.store_src) t.record_is ∙ second;
        width = ap (λ (r : CycleRecord). r.store_width) t.record_is ∙ ap store_width e.funct3 ∙ width-agrees i;
        old = ap (λ (r : CycleRecord). r.ram_old) t.record_is ∙ ap (cell c.ram) (sym w);
        new =
            ap (λ (r : CycleRecord). r.ram_new) t.record_is
            ∙ sym (get_or-set_same c.ram k new 0 (omega (arith, h.typed.ram)))
            ∙ sym (ap₂ (λ (d : Cursor) (n : ℕ). cell d.ram n) t.cursor w);
      }

  -- ---- branches

  pub branches : (i : Branch) → IsBranch i inst → Branches rows inst c i
  unfolding row_as step_at arm_of branch_arm commit record_of regs_after scratched ram_after
  branches i e =
      let row = branch_row (fields (class_of BRANCH inst) (low (immediate_b inst)) inst) in
      let t = single BRANCH (immediate_b inst) e.word refl (encoding.b_immediate inst e.word) in
      let u = unwritten (after rows inst c) _ (ap (λ (d : Cursor). d.regs) t.cursor) in
      let b = branch_taken (manual.funct3 inst) (cell c.regs (rs1 inst)) (cell c.regs (rs2 inst)) in
      let v : b ≡ taken i inst (state_of c) = rw e.funct3 (condition-agrees i _ _ first_lt second_lt ∙ ap₂ (branch i).gives first second) in
      record {
        running = ap (λ (d : Cursor). d.halted) t.cursor;
        state = ap₂ state u.0 (ap (λ (d : Cursor). bytes d.ram) t.cursor ∙ rw (branch_quiet b));
        zero = u.1;
        rs1_val = ap (λ (r : CycleRecord). r.rs1_val) t.record_is ∙ first;
        rs2_val = ap (λ (r : CycleRecord). r.rs2_val) t.record_is ∙ second;
        shows = showing _ _ _ _ _ t.record_is first second (minus_is _ _ first_lt second_lt ∙ ap₂ difference first second);
        condition = ap taken_flag t.record_is ∙ flag_taken b ∙ v;
        not_taken = λ n. ap (λ (d : Cursor). d.micro_pc) t.cursor ∙ rw (v, n) (at_next rows inst c t.one);
      }
