use mathlib.Core.Path.{◌≡◌, refl, sym, ◌∙◌}
use Prim.Native.Nat.{◌+◌}
use native.Mathlib.Omega.{arith}
use borrow.Author.Rules.{rules}
use lib.ListN.{drop}
use Rattle.expand.specs.Expand.{is_expansion}
use mathlib.Core.Bool.{true, false, ◌&&◌}
use Rattle.expand.proofs.Follow.{no_first_at, past, stages_fit, turn_six, turn_one}
use Rattle.expand.proofs.is_expansion.Goals.{After-stages_after}
use Rattle.expand.proofs.is_expansion.Goals as goal

six : (c : After-stages_after) → (c.stages_after.result && is_expansion (drop (c.loop-i.i + 6) c.args.rows.now)) ≡ is_expansion c.args.rows.now
six c =
    turn_six c.args.rows.now c.loop-i.i c.is_reg_shift.result c.loop-i-test.true c.if-v-ge4294967296.false c.is_reg_shift.ensures c.stages_after.result c.if-is_reg_shift.true c.stages_after.ensures
    ∙ c.loop-i.invariant.1

pub loop-i-init : goal.loop-i-init
loop-i-init c = (omega arith, refl)

pub returns-then-v-ge4294967296 : goal.returns-then-v-ge4294967296
returns-then-v-ge4294967296 c =
    let at = c.loop-i in
    sym (no_first_at c.args.rows.now at.i (at.i + 1) (omega arith) c.loop-i-test.true c.if-v-ge4294967296.true) ∙ at.invariant.1

pub returns-then-not-stages_after : goal.returns-then-not-stages_after
returns-then-not-stages_after c =
    let no : c.stages_after.result ≡ false = c.if-not-stages_after.true in
    rw no at (six (goal.at.returns-then-not-stages_after c).After-stages_after)

pub loop-i-preserved-then-is_reg_shift : goal.loop-i-preserved-then-is_reg_shift
loop-i-preserved-then-is_reg_shift c =
    let yes : c.stages_after.result ≡ true = c.if-not-stages_after.false in
    (stages_fit _ _ _ (sym c.stages_after.ensures ∙ yes), rw yes at (six (goal.at.loop-i-preserved-then-is_reg_shift c).After-stages_after))

pub loop-i-preserved : goal.loop-i-preserved
loop-i-preserved c =
    let at = c.loop-i in (
      search rules,
      turn_one c.args.rows.now at.i c.is_reg_shift.result c.loop-i-test.true c.if-v-ge4294967296.false c.is_reg_shift.ensures c.if-is_reg_shift.false ∙ at.invariant.1,
    )

pub returns : goal.returns
returns c =
    let at = c.loop-i in
    sym (past c.args.rows.now at.i c.loop-i-test.false) ∙ at.invariant.1
