-- What the agreement asks of a cursor is met, and its live cycles are those of a segment call. Assumes nothing.
use mathlib.Core.Path.{◌≡◌, refl, ap, sym, ◌∙◌}
use mathlib.Core.Bool.{Bool, true, false, ◌&&◌, false≢true}
use mathlib.Core.List.{List, [], ◌∷◌}
use Prim.Native.Nat.{ℕ, zero, suc, ◌+◌, ◌%◌, ◌^◌, ◌<◌}
use native.Mathlib.Nat.{mod-eq_of_lt}
use native.Mathlib.Omega.{arith}
use lib.ListN.{length, get_or, drop, length-drop, length-append}
use lib.Seq.{take_at}
use lib.Dec.{eqb}
use borrow.Author.Tests.{eqb-true}
use Rattle.decode.specs.Manual as manual
use Rattle.decode.specs.Manual.{OP, Word}
use Rattle.decode.specs.Decode.{decode_of}
use Rattle.decode.specs.Claims.{opcode_number}
use Rattle.decode.specs.declared.Opcode.TheVariants.{Invalid}
use Rattle.decode.proofs.Laws.{laws as decoded}
use Rattle.decode.proofs.Agrees.{agreement as encoded}
use Rattle.expand.specs.Rows.{is_reg_shift, shifts}
use Rattle.expand.specs.Expand.{rows_of, expansion_of, starts_from, starts_of}
use Rattle.expand.proofs.Laws.{laws as expanded}
use Rattle.interp.specs.declared.Cursor.{Cursor}
use Rattle.interp.specs.Machine.{start_of}
use Rattle.interp.specs.Cycle.{live, cycle}
use Rattle.interp.specs.Calls.{recorded, end}
use Rattle.interp.specs.Laws.{Running}
use Rattle.interp.proofs.Above.{laws}
use Rattle.rv64i.specs.Agreement.{cycles, Typed, ZeroCell, At, next, Premises}
use Rattle.rv64i.proofs.Rows.{one_row}
use Rattle.rv64i.proofs.SixRows.{six_running}
use Rattle.rv64i.proofs.Typed.{fresh, live_kept, padding_kept}

-- ---- the first row of a word of a program

first_row : (program : List ℕ) (i : ℕ) (c : Cursor) → i < length program → c.micro_pc.0 ≡ get_or (starts_of program) i 0
    → ZeroCell c → Typed c → At (expansion_of program) (get_or program i 0) c
first_row program i c l e z t =
    let w = get_or program i 0 in
    record {
      here = rw (e, expanded.at_start program i l) (take_at (rows_of w) (expansion_of (drop (suc i) program)) (cycles w) refl);
      zero = z;
      typed = t;
    }

next_from : (k : ℕ) (program : List ℕ) (i : ℕ) → suc i < length program
    → get_or (starts_from k program) (suc i) 0 ≡ get_or (starts_from k program) i 0 + cycles (get_or program i 0)
unfolding starts_from
next_from k [] i l = absurd (omega arith)
next_from k (raw ∷ []) i l = absurd (omega arith)
next_from k (raw ∷ next ∷ program) zero l = refl
next_from k (raw ∷ next ∷ program) (suc i) l = next_from (k + cycles raw) (next ∷ program) i (omega arith)

-- a start is a row
start_below : (program : List ℕ) (i : ℕ) → i < length program → get_or (starts_of program) i 0 < length (expansion_of program)
start_below program i l =
    omega (
      arith,
      ap length (expanded.at_start program i l),
      length-drop (get_or (starts_of program) i 0) (expansion_of program),
      length-append (rows_of (get_or program i 0)) (expansion_of (drop (suc i) program)),
    )

next_row : (program : List ℕ) (i : ℕ) (c : Cursor) → suc i < length program → c.micro_pc.0 ≡ get_or (starts_of program) i 0
    → next (expansion_of program) (get_or program i 0) c ≡ get_or (starts_of program) (suc i) 0
next_row program i c l e =
    ap (λ (k : ℕ). (k + cycles (get_or program i 0)) % length (expansion_of program)) e
    ∙ ap (λ (k : ℕ). k % length (expansion_of program)) (sym (next_from 0 program i l))
    ∙ mod-eq_of_lt (start_below program (suc i) l)

-- ---- the fresh cursor

fresh_row : (program input : List ℕ) → (start_of input).micro_pc.0 ≡ get_or (starts_of program) 0 0
unfolding start_of starts_from
fresh_row [] input = refl
fresh_row (raw ∷ program) input = refl

fresh_zero : (input : List ℕ) → ZeroCell (start_of input)
unfolding start_of
fresh_zero input = refl

-- ---- the cycles of a word in a segment

both : (a b : Bool) → (a && b) ≡ true → (a ≡ true) × (b ≡ true)
both true b e = (refl, e)
both false b e = absurd (false≢true e)

-- a word of six rows has the opcode OP and the funct3 of a shift
register_shift : (inst : ℕ) → inst < 2 ^ 32 → is_reg_shift inst ≡ true → Word OP inst × (shifts (manual.funct3 inst) ≡ true)
unfolding is_reg_shift
register_shift inst f e =
    let p = both (eqb (opcode_number (decode_of inst).opcode) 0x33) (shifts (decode_of inst).funct3) e in
    let n : opcode_number (decode_of inst).opcode ≡ 0x33 = eqb-true _ _ p.0 in
    let known : (decode_of inst).opcode ≡ Invalid → ⊥ = λ i. omega (arith, n, ap opcode_number i) in
    let o : inst % 2 ^ 7 ≡ 0x33 = decoded.number inst known ∙ n in
    (record { fits = f; has = omega arith }, ap shifts (sym (encoded.funct3 inst)) ∙ p.1)

one_running : (rows : List ℕ) (c : Cursor) → c.halted ≡ false → Running rows 1 c
unfolding end
one_running rows c z zero l = z
one_running rows c z (suc k) l = absurd (omega arith)

module _ (rows : List ℕ) (inst : ℕ) (c : Cursor) (f : inst < 2 ^ 32) (h : At rows inst c) (z : c.halted ≡ false) where
  running : Running rows (cycles inst) c
  running = by (is_reg_shift inst) refl
    where
      by : (t : Bool) → is_reg_shift inst ≡ t → Running rows (cycles inst) c
      by true e = let p = register_shift inst f e in six_running rows inst c h p.0 p.1 z
      by false e = λ k l. one_running rows c z k (omega (arith, ap length (one_row inst e)))

  same_cursor : end (cycle rows) (cycles inst) c ≡ end (live rows) (cycles inst) c
  same_cursor = laws.live_cursor rows (cycles inst) c running

  same_records : recorded (cycle rows) (cycles inst) c ≡ recorded (live rows) (cycles inst) c
  same_records = laws.live_records rows (cycles inst) c running

pub premises : Premises
premises =
    record {
      first_row = first_row;
      next_word = next_from 0;
      start_below = start_below;
      next_row = next_row;
      fresh_row = fresh_row;
      fresh_zero = fresh_zero;
      fresh = fresh;
      live_kept = live_kept;
      padding_kept = padding_kept;
      segment_cursor = same_cursor;
      segment_records = same_records;
    }
