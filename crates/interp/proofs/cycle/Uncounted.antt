-- No cycle looks at cycles. Assumes nothing.
use Rattle.std.proofs.Common.{◌≡◌, ℕ, Bool, true, false, cond, List, sym, refl, ap, ◌∙◌}
use Rattle.interp.specs.declared.Cursor.{Cursor}
use Rattle.interp.specs.Cycle.{Step, commit, step_at, live, frozen_at, padding, cycle}
use Rattle.interp.specs.Calls.{Call, segment, padded, turn}
use Rattle.interp.specs.Laws.{uncounted, Uncounted}

-- ---- a cycle of a cursor, and of the same with its cycles put to 0

live_uncounted : (rows : List ℕ) (c : Cursor) → Uncounted (live rows c) (live rows (uncounted c))
unfolding live step_at commit uncounted
live_uncounted rows c = record { shown = refl; after = refl }

padding_uncounted : (rows : List ℕ) (c : Cursor) → Uncounted (padding rows c) (padding rows (uncounted c))
unfolding padding frozen_at uncounted
padding_uncounted rows c = record { shown = refl; after = refl }

either_uncounted : (b : Bool) (s s' t t' : Step) → Uncounted s s' → Uncounted t t' → Uncounted (cond b s t) (cond b s' t')
either_uncounted true s s' t t' p q = p
either_uncounted false s s' t t' p q = q

cycle_uncounted : (rows : List ℕ) (c : Cursor) → Uncounted (cycle rows c) (cycle rows (uncounted c))
unfolding cycle uncounted
cycle_uncounted rows c = either_uncounted c.halted _ _ _ _ (padding_uncounted rows c) (live_uncounted rows c)

turn_uncounted : (rows : List ℕ) (k : Call) (c : Cursor) → Uncounted (turn k rows c) (turn k rows (uncounted c))
unfolding turn
turn_uncounted rows (segment n buffer) c = cycle_uncounted rows c
turn_uncounted rows (padded n buffer) c = padding_uncounted rows c

-- ---- so of any two that agree but for cycles

pub not_counted : (rows : List ℕ) (k : Call) (c d : Cursor) → uncounted c ≡ uncounted d → Uncounted (turn k rows c) (turn k rows d)
not_counted rows k c d e =
    let p = turn_uncounted rows k c in
    let q = turn_uncounted rows k d in
    record {
      shown = p.shown ∙ ap (λ u. (turn k rows u).shown) e ∙ sym q.shown;
      after = p.after ∙ ap (λ u. uncounted (turn k rows u).after) e ∙ sym q.after;
    }
