-- Segment calls that fit are accepted, one after the other. Assumes nothing.
use Rattle.std.proofs.Common.{◌≡◌, ℕ, zero, suc, ◌+◌, ◌*◌, ◌^◌, ◌≤◌, ◌<◌, Bool, true, false, cond, leb, List, [], ◌∷◌, length, refl, sym, ap, ◌∙◌, arith}
use mathlib.Core.Path.{subst}
use mathlib.Core.Bool.{and-eq-true_iff, false≢true}
use borrow.Author.Tests.{leb-true}
use Rattle.std.specs.Prelude.{map, sum}
use Rattle.std.proofs.lemmas.List.Sums.{sum_by-cons}
use Rattle.interp.specs.declared.Cursor.{Cursor}
use Rattle.interp.specs.Machine.{start_of}
use Rattle.interp.specs.Cycle.{live, frozen_at, padding, cycle}
use Rattle.interp.specs.Calls.{end, Call, segment, padded, amount, lent, turn, is_segment, refusal_of, settled, answer_of, counted, total, segments}
use Rattle.interp.specs.Laws.{RowsAccepted, buffers_suffice}
use Rattle.interp.proofs.run.Halting.{live_kept}
use Rattle.interp.proofs.refusals.Judged.{fits_accepted, rows_accepted}

-- a cursor within its rows, that can take so many more cycles
record Takes (rows : List ℕ) (c : Cursor) (left : ℕ) : Type 0 where
  pc : c.micro_pc.0 < length rows
  fetch : c.next_fetch.0 < length rows
  few : c.cycles + left ≤ 2 ^ 62

module _ (rows : List ℕ) where
  cycle_takes : (c : Cursor) (left : ℕ) → Takes rows c (suc left) → Takes rows (cycle rows c).after left
  unfolding cycle padding frozen_at
  cycle_takes c left f = go c.halted
    where
      go : (halted : Bool) → Takes rows (cond halted (padding rows c) (live rows c)).after left
      go true = record { pc = f.pc; fetch = f.fetch; few = let h = f.few in omega arith }
      go false =
          let kept = live_kept rows c f.pc in
          record { pc = kept.0; fetch = kept.1.0; few = let h = f.few in let one = kept.1.1 in omega arith }

  run_takes : (n : ℕ) (c : Cursor) (left : ℕ) → Takes rows c (n + left) → Takes rows (end (cycle rows) n c) left
  unfolding end
  run_takes zero c left f = record { pc = f.pc; fetch = f.fetch; few = let h = f.few in omega arith }
  run_takes (suc n) c left f =
      run_takes n (cycle rows c).after left (cycle_takes c (n + left) (record { pc = f.pc; fetch = f.fetch; few = let h = f.few in omega arith }))

  module _ (none : RowsAccepted rows) where
    call_accepted : (c : Cursor) (n left : ℕ) (buffer : List ℕ) → Takes rows c (n + left) → 17 * n ≤ length buffer → refusal_of rows c (segment n buffer) ≡ 0
    unfolding refusal_of is_segment amount lent
    call_accepted c n left buffer f h =
        let few : c.cycles + n ≤ 2 ^ 62 = omega (arith, f.few) in
        sym (fits_accepted rows c true n (length buffer) (sym none) f.pc f.fetch few h)

    calls_accepted : (c : Cursor) (ks : List Call) → Takes rows c (sum (map amount ks)) → segments ks ≡ true → buffers_suffice ks ≡ true
        → total rows c ks ≡ sum (map amount ks)
    unfolding total segments is_segment amount lent answer_of settled counted turn
    calls_accepted c [] f s b = refl
    calls_accepted c (padded n buffer ∷ ks) f s b = absurd (false≢true s)
    calls_accepted c (segment n buffer ∷ ks) f s b =
        let room = (and-eq-true_iff (leb (17 * n) (length buffer)) (buffers_suffice ks)).0 b in
        let rest = sum (map amount ks) in
        let parts = sum_by-cons (λ m. m) n (map amount ks) in
        let f₁ = subst (Takes rows c) parts f in
        let accepted = call_accepted c n rest buffer f₁ (leb-true _ _ room.0) in
        let later = calls_accepted (end (cycle rows) n c) ks (run_takes n c rest f₁) s room.1 in
        rw accepted (ap (λ m. n + m) later ∙ sym parts)

pub all_accepted : (rows input : List ℕ) (calls : List Call) → RowsAccepted rows → segments calls ≡ true → buffers_suffice calls ≡ true
    → sum (map amount calls) ≤ 2 ^ 62 → total rows (start_of input) calls ≡ sum (map amount calls)
unfolding start_of
all_accepted rows input calls none s b few =
    let some = (rows_accepted rows [] none).some in
    calls_accepted rows none (start_of input) calls (record { pc = some; fetch = some; few = omega (arith, few) }) s b
