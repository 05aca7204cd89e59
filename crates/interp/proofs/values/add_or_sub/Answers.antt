use Rattle.std.proofs.Common.{eq-eqb, ne_eqb}
use Rattle.interp.specs.Values.{sum}
use Rattle.interp.proofs.values.Words.{mask7}
use Rattle.interp.proofs.values.add_or_sub.Goals as goal
use Rattle.interp.proofs.values.add_or_sub.Goals.{else-raw-eq51-via-then-raw-eq51+else-raw-eq32, else-raw-eq51-via-else-raw-eq51}

pub returns-then-raw-eq32 : goal.returns-then-raw-eq32
unfolding sum
returns-then-raw-eq32 c = simp (← mask7, eq-eqb _ _ c.if-raw-eq51.true, c.if-raw-eq32.true)

pub returns-else-raw-eq51 : goal.returns-else-raw-eq51
unfolding sum
returns-else-raw-eq51 c =
    elim c.else-raw-eq51.branch [
      | else-raw-eq51-via-then-raw-eq51+else-raw-eq32 w ↦
          simp (← mask7, eq-eqb _ _ w.if-raw-eq51.true, ne_eqb _ _ w.if-raw-eq32.false)
      | else-raw-eq51-via-else-raw-eq51 w ↦ simp (← mask7, ne_eqb _ _ w.if-raw-eq51.false)
    ]
