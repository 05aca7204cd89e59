use mathlib.Core.Path.{◌≡◌, refl, sym, ap, ◌∙◌}
use mathlib.Core.Bool.{true}
use Prim.Native.Nat.{ℕ, ◌+◌, ◌-◌}
use native.Mathlib.Omega.{arith}
use lib.ListN.{drop, length-drop}
use Rattle.expand.specs.Expand.{stages}
use Rattle.expand.specs.Code.{begins_with}
use Rattle.expand.proofs.Follow.{short, stage_hit, stage_miss}
use Rattle.expand.proofs.stages_after.Goals as goal

pub returns-then-rows-i : goal.returns-then-rows-i
returns-then-rows-i c =
    let a = c.args in
    sym (short (stages 5 1 a.v) (drop (a.i + 1) a.rows.now) (simp length-drop (omega arith)))

pub returns-then-rows-i-2 : goal.returns-then-rows-i-2
returns-then-rows-i-2 c =
    let a = c.args in
    let at = c.loop-k in
    sym (at.invariant.4 ∙ stage_miss a.rows.now a.i a.v at.k at.invariant.3 (omega arith) c.if-rows-i-2.true)

pub loop-k-preserved : goal.loop-k-preserved
loop-k-preserved c =
    let a = c.args in
    let at = c.loop-k in (
      omega arith,
      omega arith,
      at.invariant.2,
      at.invariant.3,
      at.invariant.4 ∙ stage_hit a.rows.now a.i a.v at.k at.invariant.3 (omega arith) c.if-rows-i-2.false,
    )

pub returns : goal.returns
unfolding begins_with
returns c =
    let a = c.args in
    let at = c.loop-k in
    let k : at.k ≡ 6 = omega arith in
    let all : begins_with (stages 5 1 a.v) (drop (a.i + 1) a.rows.now) ≡ true =
    at.invariant.4 ∙ ap (λ (n : ℕ). begins_with (stages (6 - n) n a.v) (drop (a.i + n) a.rows.now)) k in
    sym all

pub loop-k-init : goal.loop-k-init
loop-k-init c = (omega arith, omega arith, c.requires.1, omega arith, refl)
