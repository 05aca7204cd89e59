-- A call's cycles are live ones and then padding of one row; how many are live, and that a live cycle keeps the machine within
-- its rows. Assumes nothing.
use Rattle.std.proofs.Common.{◌≡◌, ℕ, zero, suc, ◌+◌, ◌-◌, ◌*◌, ◌^◌, ◌<◌, ◌≤◌, Bool, true, false, cond, eqb, List, ◌∷◌, ◌++◌, length, take, drop, sym, refl, ap, ◌∙◌, append_assoc, arith, drop-drop, take_at, drop_at, eqb-true}
use mathlib.Core.Bool.{false≢true}
use native.Mathlib.Nat.{suc-sub-suc, sub-zero}
use borrow.Author.Tests.{eqb-false}
use Rattle.expand.specs.declared.MicroPc.{MicroPc}
use Rattle.expand.specs.declared.RomRow.{RomRow}
use Rattle.expand.proofs.Laws.{laws}
use Rattle.interp.specs.declared.Cursor.{Cursor}
use Rattle.interp.specs.declared.CycleRecord.{CycleRecord}
use Rattle.interp.specs.declared.Request.{Request}
use Rattle.interp.specs.declared.Request.TheVariants.{Segment, Padding}
use Rattle.interp.specs.Machine.{row_at, flat}
use Rattle.interp.specs.Cycle.{Step, accumulator, commit, step_at, live, frozen_at, padding, cycle}
use Rattle.interp.specs.Calls.{recorded, end}
use Rattle.interp.specs.Execute.{live_count_of, live_records_of, stopped_at}
use Rattle.interp.specs.Code.{length_of, limit_of, step_of}
use Rattle.interp.proofs.arms.Lawful.{arm_lawful}
use Rattle.interp.proofs.calls.Runs.{flat_append, length-words}

-- ---- cycles that agree where P holds, which they keep

module _ (f g : Cursor → Step) (P : Cursor → Type 0) (same : (c : Cursor) → P c → f c ≡ g c) (kept : (c : Cursor) → P c → P (g c).after) where
  end_same : (n : ℕ) (c : Cursor) → P c → end f n c ≡ end g n c
  unfolding end
  end_same zero c p = refl
  end_same (suc n) c p = ap (λ (s : Step). end f n s.after) (same c p) ∙ end_same n (g c).after (kept c p)

  recorded_same : (n : ℕ) (c : Cursor) → P c → recorded f n c ≡ recorded g n c
  unfolding recorded
  recorded_same zero c p = refl
  recorded_same (suc n) c p =
      ap (λ (s : Step). s.shown ∷ recorded f n s.after) (same c p)
      ∙ ap (λ (rs : List CycleRecord). (g c).shown ∷ rs) (recorded_same n (g c).after (kept c p))

module _ (rows : List ℕ) where
  -- ---- a segment's cycle is live or padding

  cycle-live : (c : Cursor) → c.halted ≡ false → cycle rows c ≡ live rows c
  unfolding cycle
  cycle-live c e = rw e refl

  cycle-halted : (c : Cursor) → c.halted ≡ true → cycle rows c ≡ padding rows c
  unfolding cycle
  cycle-halted c e = rw e refl

  halted-kept : (c : Cursor) → c.halted ≡ true → (padding rows c).after.halted ≡ true
  unfolding padding frozen_at
  halted-kept c e = e

  -- ---- how many cycles are live

  pub count-halted : (n : ℕ) (c : Cursor) → c.halted ≡ true → live_count_of rows n c ≡ 0
  unfolding live_count_of
  count-halted zero c e = refl
  count-halted (suc n) c e = rw e refl

  pub count-live : (n : ℕ) (c : Cursor) → c.halted ≡ false → live_count_of rows (suc n) c ≡ suc (live_count_of rows n (live rows c).after)
  unfolding live_count_of
  count-live n c e = rw e refl

  pub count_most : (n : ℕ) (c : Cursor) → live_count_of rows n c ≤ n
  unfolding live_count_of
  count_most zero c = omega arith
  count_most (suc n) c = go c.halted (count_most n (live rows c).after)
    where
      go : (h : Bool) → live_count_of rows n (live rows c).after ≤ n → cond h 0 (suc (live_count_of rows n (live rows c).after)) ≤ suc n
      go true le = omega arith
      go false le = omega (arith, le)

  -- none where the live cycles are over
  pub count_over : (i limit : ℕ) (c : Cursor) → cond c.halted true (eqb i limit) ≡ true → live_count_of rows (limit - i) c ≡ 0
  unfolding live_count_of
  count_over i limit c e = go c.halted refl (eqb i limit) refl
    where
      go : (h : Bool) → c.halted ≡ h → (t : Bool) → eqb i limit ≡ t → live_count_of rows (limit - i) c ≡ 0
      go true eh t et = count-halted (limit - i) c eh
      go false eh true et = let none : limit - i ≡ 0 = omega (arith, eqb-true i limit et) in rw none refl
      go false eh false et = absurd (false≢true (rw (eh, et) at e))

  -- ---- a segment's cycles are its live ones and then padding

  abbrev Split : ℕ → Cursor → Type 0
  Split n c =
      (end (cycle rows) n c ≡ end (padding rows) (n - live_count_of rows n c) (stopped_at rows n c))
      × (recorded (cycle rows) n c ≡ live_records_of rows n c ++ recorded (padding rows) (n - live_count_of rows n c) (stopped_at rows n c))

  split : (n : ℕ) (c : Cursor) → Split n c
  unfolding end recorded live_count_of
  split zero c = (refl, refl)
  split (suc n) c = go c.halted refl (split n (live rows c).after)
    where
      go : (h : Bool) → c.halted ≡ h → Split n (live rows c).after → Split (suc n) c
      go true e rest =
          let halted : Cursor → Type 0 = λ d. d.halted ≡ true in
          rw (count-halted (suc n) c e, sub-zero (suc n))
          (end_same (cycle rows) (padding rows) halted cycle-halted halted-kept (suc n) c e, recorded_same (cycle rows) (padding rows) halted cycle-halted halted-kept (suc n) c e)
      go false e rest =
          let k = live_count_of rows n (live rows c).after in
          rw (count-live n c e, suc-sub-suc n k, cycle-live c e) (rest.0, ap (λ (rs : List CycleRecord). (live rows c).shown ∷ rs) rest.1)

  -- the same of both calls
  pub ran_end : (request : Request) (c : Cursor)
      → end (padding rows) (length_of request - live_count_of rows (limit_of request) c) (stopped_at rows (limit_of request) c)
      ≡ end (step_of request rows) (length_of request) c
  unfolding live_count_of end
  ran_end (Segment n) c = sym (split n c).0
  ran_end (Padding n) c = rw (sub-zero n) refl

  pub ran_recorded : (request : Request) (c : Cursor)
      → live_records_of rows (limit_of request) c ++ recorded (padding rows) (length_of request - live_count_of rows (limit_of request) c) (stopped_at rows (limit_of request) c)
      ≡ recorded (step_of request rows) (length_of request) c
  unfolding live_count_of end recorded
  ran_recorded (Segment n) c = sym (split n c).1
  ran_recorded (Padding n) c = rw (sub-zero n) refl

  -- ---- padding stays at its row, which is taken apart once

  module _ (row : RomRow) where
    abbrev Frozen : Cursor → Type 0
    Frozen c = row ≡ row_at rows c.next_fetch.0

    step_frozen : (c : Cursor) → Frozen c → padding rows c ≡ frozen_at row c
    unfolding padding
    step_frozen c e = rw e refl

    frozen_kept : (c : Cursor) → Frozen c → Frozen (frozen_at row c).after
    unfolding frozen_at
    frozen_kept c e = e

    -- after `count` live cycles the machine is at c₁ and the buffer is out₁; c₂ and out₂ are what padding up to `due` records leaves
    module _ (limit count due : ℕ) (c : Cursor) (buffer : List ℕ) (c₁ : Cursor) (counted : count ≡ live_count_of rows limit c) (frozen : Frozen c₁) (e₁ : c₁ ≡ stopped_at rows limit c) where
      abbrev rest : ℕ
      rest = due - live_count_of rows limit c

      pub padded_cursor : (c₂ : Cursor) → c₂ ≡ end (frozen_at row) (due - count) c₁ → c₂ ≡ end (padding rows) rest (stopped_at rows limit c)
      padded_cursor c₂ e₂ =
          e₂ ∙ ap (λ (k : ℕ). end (frozen_at row) (due - k) c₁) counted
          ∙ sym (end_same (padding rows) (frozen_at row) Frozen step_frozen frozen_kept rest c₁ frozen) ∙ ap (end (padding rows) rest) e₁

      padded_recorded : recorded (frozen_at row) (due - count) c₁ ≡ recorded (padding rows) rest (stopped_at rows limit c)
      padded_recorded =
          ap (λ (k : ℕ). recorded (frozen_at row) (due - k) c₁) counted
          ∙ sym (recorded_same (padding rows) (frozen_at row) Frozen step_frozen frozen_kept rest c₁ frozen) ∙ ap (recorded (padding rows) rest) e₁

      pub padded_words : count ≤ due → (out₁ out₂ : List ℕ)
          → out₁ ≡ flat (live_records_of rows limit c) ++ drop (17 * count) buffer
          → out₂ ≡ take (17 * count) out₁ ++ (flat (recorded (frozen_at row) (due - count) c₁) ++ drop (17 * due) out₁)
          → out₂ ≡ flat (live_records_of rows limit c) ++ (flat (recorded (padding rows) rest (stopped_at rows limit c)) ++ drop (17 * due) buffer)
      padded_words le out₁ out₂ o₁ o₂ =
          let p = flat (live_records_of rows limit c) in
          let l : length p ≡ 17 * count = length-words (live rows) (live_count_of rows limit c) c ∙ ap (λ (k : ℕ). 17 * k) (sym counted) in
          let m : 17 * count + 17 * (due - count) ≡ 17 * due = omega (arith, le) in
          let behind : drop (17 * due) out₁ ≡ drop (17 * due) buffer =
          ap (λ (i : ℕ). drop i out₁) (sym m) ∙ sym (drop-drop (17 * (due - count)) (17 * count) out₁)
          ∙ ap (drop (17 * (due - count))) (ap (drop (17 * count)) o₁ ∙ drop_at p (drop (17 * count) buffer) (17 * count) l)
          ∙ drop-drop (17 * (due - count)) (17 * count) buffer ∙ ap (λ (i : ℕ). drop i buffer) m in
          o₂ ∙ rw (behind, padded_recorded, ap (take (17 * count)) o₁ ∙ take_at p (drop (17 * count) buffer) (17 * count) l) refl

  -- of both calls, the records of the live cycles and of padding joined
  pub ran_words : (request : Request) (c : Cursor) (rest : List ℕ)
      → flat (live_records_of rows (limit_of request) c)
      ++ (flat (recorded (padding rows) (length_of request - live_count_of rows (limit_of request) c) (stopped_at rows (limit_of request) c)) ++ rest)
      ≡ flat (recorded (step_of request rows) (length_of request) c) ++ rest
  ran_words request c rest =
      let p = live_records_of rows (limit_of request) c in
      let q = recorded (padding rows) (length_of request - live_count_of rows (limit_of request) c) (stopped_at rows (limit_of request) c) in
      sym (append_assoc (flat p) (flat q) rest)
      ∙ ap (λ (ws : List ℕ). ws ++ rest) (sym (flat_append p q) ∙ ap flat (ran_recorded request c))

-- ---- after i of at most n live cycles

pub record Live (rows : List ℕ) (n : ℕ) (c₀ c : Cursor) (i : ℕ) : Type 0 where
  pub pc : c.micro_pc.0 < length rows
  pub fetch : c.next_fetch.0 < length rows
  pub few : i < n → c.cycles + (n - i) ≤ 2 ^ 62
  pub counted : live_count_of rows n c₀ ≡ i + live_count_of rows (n - i) c

-- the live cycles are not over
pub not_over : (halted : Bool) (i n : ℕ) → cond halted true (eqb i n) ≡ false → i ≤ n → (halted ≡ false) × (i < n)
not_over true i n e le = absurd (false≢true (sym e))
not_over false i n e le = (refl, omega (arith, le, eqb-false i n e))

pub live_kept : (rows : List ℕ) (c : Cursor) → c.micro_pc.0 < length rows
    → ((live rows c).after.micro_pc.0 < length rows) × (((live rows c).after.next_fetch.0 < length rows) × ((live rows c).after.cycles ≡ suc c.cycles))
unfolding live step_at commit
live_kept rows c h =
    let row = row_at rows c.micro_pc.0 in
    let next = (arm_lawful row c.micro_pc (length rows) c.regs (laws.rd _) h row.kind (accumulator c.regs) c.ram).next in
    (next, (next, refl))

pub live_on : (rows : List ℕ) (n : ℕ) (c₀ c : Cursor) (i : ℕ) → Live rows n c₀ c i → c.halted ≡ false → i < n
    → Live rows n c₀ (live rows c).after (i + 1)
live_on rows n c₀ c i l e lt =
    let kept = live_kept rows c l.pc in
    let left : n - i ≡ suc (n - (i + 1)) = omega (arith, lt) in
    let more : live_count_of rows (n - i) c ≡ suc (live_count_of rows (n - (i + 1)) (live rows c).after) = ap (λ (m : ℕ). live_count_of rows m c) left ∙ count-live rows (n - (i + 1)) c e in
    record {
      pc = kept.0;
      fetch = kept.1.0;
      few = λ h. omega (arith, kept.1.1, l.few lt, h);
      counted = l.counted ∙ omega (arith, more);
    }

-- the row of a turn, after i of n cycles: where padding stays if the live ones are over, else the next live one
abbrev pub turn-row : Cursor → ℕ → ℕ → MicroPc
turn-row c i n = cond (cond c.halted true (eqb i n)) c.next_fetch c.micro_pc

-- after a live cycle both positions are one, so that the row of the next turn is known before it is known whether it is live
pub turn-kept : (rows : List ℕ) (c c' : Cursor) (i n : ℕ) → c' ≡ (live rows c).after → c'.next_fetch ≡ turn-row c' i n
unfolding live step_at commit
turn-kept rows c c' i n e = go (cond c'.halted true (eqb i n))
  where
    go : (over : Bool) → c'.next_fetch ≡ cond over c'.next_fetch c'.micro_pc
    go true = refl
    go false = ap (λ (d : Cursor). d.next_fetch) e ∙ sym (ap (λ (d : Cursor). d.micro_pc) e)
