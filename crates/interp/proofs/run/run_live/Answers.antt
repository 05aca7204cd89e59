-- `interp::run_live` meets its contract. Assumes nothing.
use Rattle.std.proofs.Common.{◌≡◌, ℕ, ◌+◌, ◌*◌, ◌^◌, ◌<◌, ◌≤◌, Bool, true, false, cond, eqb, ◌++◌, length, drop, sym, refl, ap, ◌∙◌, zero-add, arith}
use native.Mathlib.Nat.{sub-zero}
use Rattle.expand.specs.declared.MicroPc.{MicroPc}
use Rattle.expand.specs.declared.RomRow.{RomRow}
use Rattle.interp.specs.declared.cycle.Core.{Core}
use Rattle.interp.specs.Machine.{flat, row_at}
use Rattle.interp.specs.Cycle.{step_at, live}
use Rattle.interp.specs.Calls.{recorded, end}
use Rattle.interp.specs.Execute.{live_count_of}
use Rattle.interp.specs.Code.{whole}
use Rattle.interp.proofs.arms.Lawful.{next_of, row_in}
use Rattle.interp.proofs.run.Loops.{going_on}
use Rattle.interp.proofs.run.Halting.{live_on, turn-kept, not_over, count_over}
use Rattle.interp.proofs.run.run_live.Goals.{At-loop-core, Else-is_over}
use Rattle.interp.proofs.run.run_live.Goals as goal

at_in : (c : At-loop-core) → c.loop-core.at.0 < length c.args.rows.now
at_in c = rw c.loop-core.invariant.2 (next_of (cond c.loop-core.core.halted true (eqb c.loop-core.i c.args.limit)) c.loop-core.invariant.0.fetch c.loop-core.invariant.0.pc)

pub loop-core-init : goal.loop-core-init
unfolding end recorded flat
loop-core-init c =
    let core = c.afresh-core in
    let e = core.ensures in (
      record { pc = rw e c.requires.pc; fetch = rw e c.requires.fetch; few = λ h. omega (arith, c.requires.few_cycles h, ap (λ (k : Core). k.cycles) e); counted = rw (sub-zero c.args.limit) (sym (zero-add _)) },
      record { state = refl; log = refl; long = refl; upto = omega arith; room = c.requires.fits; small = c.well_formed.1.1.1.1.0.1 },
      c.fetch_row-at.ensures ∙ ap (λ (b : Bool). cond b core.result.next_fetch core.result.micro_pc) c.is_over-over.ensures,
    )

-- the machine is running
running : (c : Else-is_over)
    → (c.loop-core.core.halted ≡ false) × (c.loop-core.i < c.args.limit)
running c = not_over _ _ _ (sym c.is_over.ensures ∙ c.if-is_over.false) c.loop-core.invariant.1.upto

-- the next record lies within the buffer
in-room : (c : Else-is_over)
    → (17 * c.loop-core.i + 17 ≤ length c.loop-core.records) × (length c.loop-core.records * 8 < 2 ^ 63)
in-room c =
    let going = c.loop-core.invariant.1 in
    (omega (arith, (running c).1, going.room, going.long), omega (arith, going.long, going.small))

pub offset_bounds-rows-at : goal.offset_bounds-rows-at
offset_bounds-rows-at c = omega (arith, at_in (goal.at.offset_bounds-rows-at c).At-loop-core)

pub bounds-rows-at : goal.bounds-rows-at
bounds-rows-at c = at_in (goal.at.bounds-rows-at c).At-loop-core

pub shape_of-records-then-is_over : goal.shape_of-records-then-is_over
shape_of-records-then-is_over c = c.loop-core.invariant.1.long

pub returns-then-is_over : goal.returns-then-is_over
returns-then-is_over c =
    let at-loop = c.loop-core in
    let rows = c.args.rows.now in
    let over = sym c.is_over.ensures ∙ c.if-is_over.true in
    let none = count_over rows at-loop.i c.args.limit (whole at-loop.core at-loop.memory) over in
    let c₀ = whole c.afresh-core.result c.args.memory.now in
    let taken : at-loop.i ≡ live_count_of rows c.args.limit c₀ = omega (arith, at-loop.invariant.0.counted, none) in
    let here : at-loop.at ≡ at-loop.core.next_fetch = at-loop.invariant.2 ∙ rw over refl in
    rw (sym c.afresh-core.ensures) record {
      count = taken;
      row = c.rom_row-row.ensures ∙ ap (λ (p : MicroPc). row_at rows p.0) here;
      cursor = at-loop.invariant.1.state ∙ ap (λ (m : ℕ). end (live rows) m c₀) taken;
      records = at-loop.invariant.1.log ∙ ap (λ (m : ℕ). flat (recorded (live rows) m c₀) ++ drop (17 * at-loop.i) c.args.records.now) taken;
    }

pub overflow_mul-base : goal.overflow_mul-base
overflow_mul-base c = omega (arith, in-room (goal.at.overflow_mul-base c).Else-is_over)

pub live_cycle-next-requires : goal.live_cycle-next-requires
live_cycle-next-requires c =
    let at-loop = c.loop-core in
    let lt = (running (goal.at.live_cycle-next-requires c).Else-is_over).1 in
    (rw c.rom_row-row.ensures (row_in _), (omega (arith, at-loop.invariant.0.few lt, lt), at-loop.invariant.0.pc))

pub overflow_add-i : goal.overflow_add-i
overflow_add-i c = omega (arith, in-room (goal.at.overflow_add-i c).Else-is_over)

pub loop-core-smaller : goal.loop-core-smaller
loop-core-smaller c = omega (arith, (running (goal.at.loop-core-smaller c).Else-is_over).1)

pub loop-core-preserved : goal.loop-core-preserved
unfolding live
loop-core-preserved c =
    let at-loop = c.loop-core in
    let rows = c.args.rows.now in
    let now-at = whole at-loop.core at-loop.memory in
    let run = running (goal.at.loop-core-preserved c).Else-is_over in
    let over = sym c.is_over.ensures ∙ c.if-is_over.false in
    let here : at-loop.at ≡ at-loop.core.micro_pc = at-loop.invariant.2 ∙ rw over refl in
    let row = c.rom_row-row.ensures ∙ ap (λ (p : MicroPc). row_at rows p.0) here in
    let done = c.live_cycle-next.ensures in
    let after = done.cursor ∙ ap (λ (r : RomRow). (step_at r (length rows) now-at).after) row in
    rw c.afresh-core-in-loop-core.ensures (
      rw after (live_on rows c.args.limit _ now-at at-loop.i at-loop.invariant.0 run.0 run.1),
      going_on (live rows) c.args.limit c.args.records.now _ at-loop.records now-at at-loop.i at-loop.invariant.1 run.1 _ _ after (simp (c.split_at_mut-rest.ensures.front, c.split_at_mut-rest.ensures.back, c.split_at_mut-part.ensures.back, done.shown, row)),
      turn-kept rows now-at _ (at-loop.i + 1) c.args.limit after,
    )
