-- The claims that the crates above use: no other proof of this crate can be named there. Assumes nothing.
use Rattle.std.proofs.Common.{◌≡◌, ℕ, zero, suc, ◌/◌, false, List, ◌∷◌, sym, refl, ap, ◌∙◌, add-one, arith}
use Rattle.interp.specs.declared.Cursor.{Cursor}
use Rattle.interp.specs.declared.CycleRecord.{CycleRecord}
use Rattle.interp.specs.Cycle.{alu_flags, stores, Step, live, cycle}
use Rattle.interp.specs.Calls.{recorded, end}
use Rattle.interp.specs.Laws.{Running, CycleLaws}
use Rattle.interp.specs.Readings.{Signed}
use Rattle.interp.specs.Execute.{ExecuteLaws}
use Rattle.interp.specs.Demand3.{Demand3}
use Rattle.interp.proofs.values.Readings.{signed_claims}
use Rattle.interp.proofs.executing.Executing.{execute_laws}
use Rattle.interp.proofs.arms.Flags.{alu_flags_lt}
use Rattle.interp.proofs.calls.Runs.{end-suc, adds, ends}
use Rattle.interp.proofs.calls.Accepted.{all_accepted}
use Rattle.interp.proofs.calls.Demand3.{demand3}
use Rattle.interp.proofs.cycle.Uncounted.{not_counted}
use Rattle.interp.proofs.refusals.Judged.{refused_not_0}
use Rattle.interp.proofs.Sizes.{start_sized, live_sized, padding_sized, answer_sized, execute_sized}

-- ---- flags below is_store

alu_quiet : (funct3 raw : ℕ) → stores (alu_flags funct3 raw) ≡ false
alu_quiet funct3 raw = let e : alu_flags funct3 raw / 0x80 ≡ 0 = omega (arith, alu_flags_lt funct3 raw) in rw e

-- ---- the cycles of a segment call

one_more : (f : Cursor → Step) (n : ℕ) (c : Cursor) → end f (suc n) c ≡ (f (end f n c)).after
one_more f n c = ap (λ (k : ℕ). end f k c) (sym (add-one n)) ∙ end-suc f n c

module _ (rows : List ℕ) where
  -- the first cycle is live, and then the machine has not halted before any of the others
  first : (n : ℕ) (c : Cursor) → Running rows (suc n) c → cycle rows c ≡ live rows c
  unfolding cycle end
  first n c h = let e : c.halted ≡ false = h 0 (omega arith) in rw e

  others : (n : ℕ) (c : Cursor) → Running rows (suc n) c → Running rows n (live rows c).after
  unfolding end
  others n c h k l = h (suc k) (omega arith)

  live_cursor : (n : ℕ) (c : Cursor) → Running rows n c → end (cycle rows) n c ≡ end (live rows) n c
  unfolding end
  live_cursor zero c h = refl
  live_cursor (suc n) c h =
      ap (λ (s : Step). end (cycle rows) n s.after) (first n c h) ∙ live_cursor n (live rows c).after (others n c h)

  live_records : (n : ℕ) (c : Cursor) → Running rows n c → recorded (cycle rows) n c ≡ recorded (live rows) n c
  unfolding recorded
  live_records zero c h = refl
  live_records (suc n) c h =
      ap (λ (s : Step). s.shown ∷ recorded (cycle rows) n s.after) (first n c h)
      ∙ ap (λ (rs : List CycleRecord). (live rows c).shown ∷ rs) (live_records n (live rows c).after (others n c h))

-- ---- the whole

pub laws : CycleLaws
laws =
    record {
      start_sized = start_sized;
      live_sized = live_sized;
      padding_sized = padding_sized;
      answer_sized = answer_sized;
      execute_sized = execute_sized;
      refused = refused_not_0;
      alu_quiet = alu_quiet;
      one_more = one_more;
      live_cursor = live_cursor;
      live_records = live_records;
      not_counted = not_counted;
      adds = adds;
      ends = ends;
      all_accepted = all_accepted;
    }

-- the other claims that they use, from where they are proved

pub readings : Signed
readings = signed_claims

pub demand : Demand3
demand = demand3

pub executions : ExecuteLaws
executions = execute_laws
