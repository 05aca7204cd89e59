-- `dispatch::judge_turn` meets its contract. Assumes nothing.
use Rattle.std.proofs.Common.{refl, sym, ◌∙◌, arith}
use borrow.Author.Tests.{le-leb}
use Rattle.dispatch.specs.Dispatch.{turn_number, granted}
use Rattle.dispatch.proofs.Ways.{next, not_refused, grants_next}
use Rattle.dispatch.proofs.judge_turn.Goals as goal

pub returns-then-d-ge-CALLERS : goal.returns-then-d-ge-CALLERS
unfolding turn_number granted
returns-then-d-ge-CALLERS c = rw (le-leb _ _ c.if-d-ge-CALLERS.true) refl

pub returns-in_default : goal.returns-in_default
returns-in_default c =
    let h = c.if-d-ge-CALLERS.false in
    rw (not_refused c.args.d.now h, grants_next c.args.d.now h, sym c.next_ready.ensures, c.in_default.is) refl

pub offset_bounds-d-caller : goal.offset_bounds-d-caller
offset_bounds-d-caller c =
    let inside = (next _ _ c.if-d-ge-CALLERS.false (sym c.next_ready.ensures ∙ c.in-Some.is)).caller in
    record { fits = omega arith }

pub bounds-d-caller : goal.bounds-d-caller
bounds-d-caller c = (next _ _ c.if-d-ge-CALLERS.false (sym c.next_ready.ensures ∙ c.in-Some.is)).caller

pub returns : goal.returns
returns c =
    let h = c.if-d-ge-CALLERS.false in
    rw (not_refused c.args.d.now h, grants_next c.args.d.now h, sym c.next_ready.ensures, c.in-Some.is, c.slice-cycles.ensures) refl
