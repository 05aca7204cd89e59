use Rattle.std.proofs.Common.{arith, le-ltb, lt-ltb}
use Rattle.interp.specs.Values.{quarter_on}
use Rattle.interp.proofs.values.quarter_on.Goals as goal

pub returns-then-imm-lt9223372036854775808 : goal.returns-then-imm-lt9223372036854775808
unfolding quarter_on
returns-then-imm-lt9223372036854775808 c = simp (lt-ltb _ _ c.if-imm-lt9223372036854775808.true)

pub returns-else-imm-lt9223372036854775808 : goal.returns-else-imm-lt9223372036854775808
unfolding quarter_on
returns-else-imm-lt9223372036854775808 c = simp (le-ltb _ _ c.if-imm-lt9223372036854775808.false) (omega (arith, c.wrapping_neg.ensures))
