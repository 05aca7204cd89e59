use Rattle.std.proofs.Common.{eq-eqb, ne_eqb}
use Rattle.interp.proofs.values.Words.{mask7}
use Rattle.interp.proofs.values.second_operand.Goals as goal

pub returns-then-raw-eq51 : goal.returns-then-raw-eq51
returns-then-raw-eq51 c = simp (← mask7, eq-eqb _ _ c.if-raw-eq51.true)

pub returns-else-raw-eq51 : goal.returns-else-raw-eq51
returns-else-raw-eq51 c = simp (← mask7, ne_eqb _ _ c.if-raw-eq51.false)
