use native.Mathlib.Nat.{add-mod-mod}
use Rattle.std.proofs.Common.{eq-eqb, ne_eqb}
use Rattle.interp.specs.Values.{upper_value}
use Rattle.interp.proofs.values.Words.{mask7}
use Rattle.interp.proofs.values.upper_value.Goals as goal

pub returns-then-raw-eq23 : goal.returns-then-raw-eq23
unfolding upper_value
returns-then-raw-eq23 c = simp (← mask7, eq-eqb _ _ c.if-raw-eq23.true) (add-mod-mod _ _ _)

pub returns-else-raw-eq23 : goal.returns-else-raw-eq23
unfolding upper_value
returns-else-raw-eq23 c = simp (← mask7, ne_eqb _ _ c.if-raw-eq23.false)
