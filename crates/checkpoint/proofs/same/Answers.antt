-- `checkpoint::same` meets its contract. Assumes nothing.
use mathlib.Core.Bool.{beq, ◌&&◌}
use mathlib.Core.Path.{◌≡◌, ◌∙◌}
use lib.Dec.{eqb}
use Rattle.checkpoint.specs.Checkpoint.{agree, same_of, cursor_at}
use Rattle.checkpoint.proofs.Laws.{agree_equals}
use Rattle.checkpoint.proofs.same.Goals as goal
use Rattle.checkpoint.proofs.same.Goals.{Joined-eq-2, then-eq, else-eq, then-a-b, else-a-b, then-a-b-2, else-a-b-2, then-eq-2, else-eq-2}

-- the tests in front of the last one
in_front : (c : Joined-eq-2)
    → let a = c.args.a in
    let b = c.args.b in
    c.if-eq-2.value ≡ (eqb a.micro_pc.0 b.micro_pc.0 && beq a.halted b.halted && eqb a.output b.output && eqb a.next_fetch.0 b.next_fetch.0 && agree a.regs.now b.regs.now)
in_front c =
    let a = c.args.a in
    let b = c.args.b in
    let one : c.if-eq.value ≡ (eqb a.micro_pc.0 b.micro_pc.0 && beq a.halted b.halted) =
    rw (← c.eq.ensures) (elim c.if-eq.branch [ then-eq w ↦ rw w.if-eq.true w.value-is | else-eq w ↦ w.value-is ∙ rw w.if-eq.false ]) in
    let two : c.if-a-b.value ≡ (c.if-eq.value && eqb a.output b.output) =
    elim c.if-a-b.branch [ then-a-b w ↦ rw w.if-a-b.true w.value-is | else-a-b w ↦ w.value-is ∙ rw w.if-a-b.false ] in
    let three : c.if-a-b-2.value ≡ (c.if-a-b.value && eqb a.next_fetch.0 b.next_fetch.0) =
    elim c.if-a-b-2.branch [
      | then-a-b-2 w ↦ rw w.if-a-b-2.true (w.value-is ∙ w.eq-then-a-b-2.ensures)
      | else-a-b-2 w ↦ w.value-is ∙ rw w.if-a-b-2.false
    ] in
    let four : c.if-eq-2.value ≡ (c.if-a-b-2.value && agree a.regs.now b.regs.now) =
    elim c.if-eq-2.branch [
      | then-eq-2 w ↦ rw w.if-eq-2.true (w.value-is ∙ w.eq-then-eq-2.ensures ∙ agree_equals a.regs.now b.regs.now)
      | else-eq-2 w ↦ w.value-is ∙ rw w.if-eq-2.false
    ] in
    four ∙ rw (three, two, one)

pub returns-then-eq-3 : goal.returns-then-eq-3
unfolding same_of cursor_at
returns-then-eq-3 c =
    rw (← in_front (goal.at.returns-then-eq-3 c).Joined-eq-2, c.if-eq-3.true) (c.eq-then-eq-3.ensures ∙ agree_equals _ _)

pub returns-else-eq-3 : goal.returns-else-eq-3
unfolding same_of cursor_at
returns-else-eq-3 c =
    rw (← in_front (goal.at.returns-else-eq-3 c).Joined-eq-2, c.if-eq-3.false)
