-- `interp::sub_flag` meets its contract. Assumes nothing.
use Rattle.std.proofs.Common.{eq-eqb, ne_eqb}
use Rattle.interp.proofs.values.Words.{mask7}
use Rattle.interp.proofs.arms.sub_flag.Goals as goal

pub returns-then-raw-eq32 : goal.returns-then-raw-eq32
returns-then-raw-eq32 c = simp (← mask7, eq-eqb _ _ c.if-raw-eq51.true, eq-eqb _ _ c.if-raw-eq32.true)

pub returns-else-raw-eq32 : goal.returns-else-raw-eq32
returns-else-raw-eq32 c = simp (← mask7, eq-eqb _ _ c.if-raw-eq51.true, ne_eqb _ _ c.if-raw-eq32.false)

pub returns-else-raw-eq51 : goal.returns-else-raw-eq51
returns-else-raw-eq51 c = simp (← mask7, ne_eqb _ _ c.if-raw-eq51.false)
