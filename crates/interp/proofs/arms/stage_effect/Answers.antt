-- `interp::stage_effect` meets its contract. Assumes nothing.
use Rattle.std.proofs.Common.{eq-eqb, ne_eqb}
use Rattle.interp.specs.Cycle.{stage_effect}
use Rattle.interp.proofs.arms.stage_effect.Goals as goal

pub returns-then-stage : goal.returns-then-stage
unfolding stage_effect
returns-then-stage c = simp (eq-eqb _ _ c.if-stage.true, c.plain.ensures, c.no_access.ensures, c.writes_to.ensures, c.showing-shown.ensures)

pub returns : goal.returns
unfolding stage_effect
returns c = simp (ne_eqb _ _ c.if-stage.false, c.showing.ensures, c.no_access-2.ensures, c.keeps_cell.ensures)
