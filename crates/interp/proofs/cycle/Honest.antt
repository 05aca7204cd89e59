-- `Honest`: all that the replay asks of a cycle, whatever its kind. A cycle of a lawful effect is honest. Assumes nothing.
use Rattle.std.proofs.Common.{◌≡◌, ℕ, ◌+◌, ◌*◌, ◌/◌, ◌%◌, ◌<◌, Bool, true, false, cond, eqb, List, [], ◌∷◌, length, get_or, drop, set, sym, refl, ap, ◌∙◌, arith}
use Rattle.expand.specs.declared.MicroPc.{MicroPc}
use Rattle.expand.proofs.Laws.{laws}
use Rattle.interp.specs.declared.Cursor.{Cursor}
use Rattle.interp.specs.declared.CycleRecord.{CycleRecord}
use Rattle.interp.specs.declared.effect.Effect.{Effect}
use Rattle.std.specs.Prelude.{Option, Some, None}
use Rattle.interp.specs.Machine.{row_at, cell, words}
use Rattle.interp.specs.Cycle.{accumulator, padding_arm, record_of, scratched, regs_after, stores, ram_after, Step, commit, step_at, live, frozen_at, padding, cycle}
use Rattle.interp.specs.Replay.{word, stored}
use Rattle.interp.proofs.arms.Lawful.{Lawful, arm_lawful, padding_lawful}

-- ---- the flag is_store is bit 7 of the flags, which begin at bit 16 of word 16

packed-store : (o w f : ℕ) → o < 256 → w < 256 → (o + 0x100 * w + 0x1_0000 * f) / 0x80_0000 % 2 ≡ f / 0x80 % 2
packed-store o w f p q = omega arith

is_store : (r : CycleRecord) → r.byte_offset < 256 → r.store_width < 256 → stored (words r) ≡ stores r.flags
unfolding words stored
is_store r p q = ap (λ n. eqb n 1) (packed-store r.byte_offset r.store_width r.flags p q)

-- ---- what the replay asks

-- a cursor as a cycle wants it and leaves it: the two positions are one, inside the rows
pub record Fit (rows : List ℕ) (c : Cursor) : Type 0 where
  pub level : c.micro_pc.0 ≡ c.next_fetch.0
  pub inside : c.next_fetch.0 < length rows

-- the cycle from c to c' has the record r
pub record Honest (rows : List ℕ) (c : Cursor) (r : List ℕ) (c' : Cursor) : Type 0 where
  pub at : word r 0 ≡ c.next_fetch.0
  pub below : word r 0 < length rows
  pub first : word r 1 ≡ cell c.regs (row_at rows (word r 0)).rs1
  pub second : word r 2 ≡ cell c.regs (row_at rows (word r 0)).rs2
  pub written : word r 5 < 64
  pub regs : drop 1 c'.regs ≡ drop 1 (set c.regs (word r 5) (word r 3))
  pub addr : word r 6 < 256
  pub shown : word r 7 ≡ cell c.ram (word r 6)
  pub ram : c'.ram ≡ cond (stored r) (set c.ram (word r 6) (word r 9)) c.ram
  pub next : word r 11 ≡ c'.next_fetch.0
  pub fit : Fit rows c'

-- the accumulator is not seen past cell 0
past_scratch : (x : Option ℕ) (regs : List ℕ) → drop 1 (scratched x regs) ≡ drop 1 regs
unfolding scratched
past_scratch None regs = refl
past_scratch (Some v) [] = refl
past_scratch (Some v) (x ∷ regs) = refl

-- a cycle at row mp that does what a lawful effect says is honest
effect_honest : (rows : List ℕ) (mp : MicroPc) (e : Effect) (c c' : Cursor) → mp.0 ≡ c.next_fetch.0 → mp.0 < length rows
    → Lawful (length rows) e → drop 1 c'.regs ≡ drop 1 (regs_after e c.regs) → c'.ram ≡ ram_after e c.ram
    → e.next_pc ≡ c'.next_fetch → Fit rows c' → Honest rows c (words (record_of (row_at rows mp.0) mp e c.regs c.ram)) c'
unfolding words record_of regs_after ram_after
effect_honest rows mp e c c' at below l regs ram next fit =
    record {
      at = at;
      below = below;
      first = refl;
      second = refl;
      written = l.sound.rd;
      regs = regs;
      addr = l.sound.addr;
      shown = refl;
      ram =
          ram
          ∙ ap (λ b. cond b (set c.ram e.access.ram_addr e.access.ram_new) c.ram)
          (sym (is_store (record_of (row_at rows mp.0) mp e c.regs c.ram) l.offset l.width));
      next = ap (λ (p : MicroPc). p.0) next;
      fit = fit;
    }

-- ---- the cycles are honest

live_honest : (rows : List ℕ) (c : Cursor) → Fit rows c → Honest rows c (words (live rows c).shown) (live rows c).after
unfolding live step_at commit
live_honest rows c f =
    let mp = c.micro_pc in
    let row = row_at rows mp.0 in
    let below : mp.0 < length rows = omega arith in
    let l = arm_lawful row mp (length rows) c.regs (laws.rd (get_or rows mp.0 0)) below row.kind (accumulator c.regs) c.ram in
    effect_honest rows mp _ c (live rows c).after f.level below l (past_scratch _ _) refl refl (record { level = refl; inside = l.next })

pub padding_honest : (rows : List ℕ) (c : Cursor) → Fit rows c → Honest rows c (words (padding rows c).shown) (padding rows c).after
unfolding padding frozen_at padding_arm
padding_honest rows c f =
    let mp = c.next_fetch in
    let l = padding_lawful (row_at rows mp.0) mp (length rows) c.regs (laws.rd (get_or rows mp.0 0)) f.inside c.output in
    effect_honest rows mp _ c (padding rows c).after refl f.inside l refl refl refl (record { level = f.level; inside = f.inside })

-- a cycle of a segment is one of the two
pub cycle_honest : (rows : List ℕ) (c : Cursor) → Fit rows c → Honest rows c (words (cycle rows c).shown) (cycle rows c).after
unfolding cycle
cycle_honest rows c f = either c.halted (padding rows c) (live rows c) (padding_honest rows c f) (live_honest rows c f)
  where
    either : (b : Bool) (x y : Step) → Honest rows c (words x.shown) x.after → Honest rows c (words y.shown) y.after
        → Honest rows c (words (cond b x y).shown) (cond b x y).after
    either true x y p q = p
    either false x y p q = q
