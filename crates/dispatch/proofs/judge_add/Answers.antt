-- `dispatch::judge_add` meets its contract. Assumes nothing.
use Rattle.std.proofs.Common.{◌+◌, ◌^◌, ◌≤◌, ◌<◌, refl, arith, lt-ltb, le-ltb}
use borrow.Author.Tests.{le-leb, lt-leb}
use Rattle.dispatch.specs.Dispatch.{wanted_of, add_number}
use Rattle.dispatch.proofs.judge_add.Goals as goal
use Rattle.dispatch.proofs.judge_add.Goals.{then-caller-ge-CALLERS-via-then-caller-ge-CALLERS, then-caller-ge-CALLERS-via-else-caller-ge-CALLERS+then-d-ge-CALLERS}

pub returns-then-caller-ge-CALLERS : goal.returns-then-caller-ge-CALLERS
unfolding add_number
returns-then-caller-ge-CALLERS c =
    elim c.then-caller-ge-CALLERS.branch [
      | then-caller-ge-CALLERS-via-then-caller-ge-CALLERS w ↦ rw (le-leb _ _ w.if-caller-ge-CALLERS.true) refl
      | then-caller-ge-CALLERS-via-else-caller-ge-CALLERS+then-d-ge-CALLERS w ↦
          rw (lt-leb _ _ w.if-caller-ge-CALLERS.false, le-leb _ _ w.if-d-ge-CALLERS.true) refl
    ]

pub returns-then-saturating_add-gt-MAX_WANTED : goal.returns-then-saturating_add-gt-MAX_WANTED
unfolding add_number
returns-then-saturating_add-gt-MAX_WANTED c =
    let over : 2 ^ 32 < wanted_of c.args.d.now c.args.caller + c.args.cycles = omega (arith, c.saturating_add.ensures, c.if-saturating_add-gt-MAX_WANTED.true) in
    rw (lt-leb _ _ c.if-caller-ge-CALLERS.false, lt-leb _ _ c.if-d-ge-CALLERS.false, lt-ltb _ _ over) refl

pub returns : goal.returns
unfolding add_number
returns c =
    let fits : wanted_of c.args.d.now c.args.caller + c.args.cycles ≤ 2 ^ 32 = omega (arith, c.saturating_add.ensures, c.if-saturating_add-gt-MAX_WANTED.false) in
    rw (lt-leb _ _ c.if-caller-ge-CALLERS.false, lt-leb _ _ c.if-d-ge-CALLERS.false, le-ltb _ _ fits) refl
