use Rattle.std.proofs.Common.{ne_eqb}
use Rattle.interp.specs.Values.{shift_at}
use Rattle.interp.proofs.values.shift_by.Goals as goal

pub returns-in-1 : goal.returns-in-1
unfolding shift_at
returns-in-1 c = rw c.in-1.is c.shift_left.ensures

pub returns-then-raw-eq32 : goal.returns-then-raw-eq32
unfolding shift_at
returns-then-raw-eq32 c = rw (c.in-5.is, c.if-raw-eq32.true) c.shift_right_signed.ensures

pub returns-else-raw-eq32 : goal.returns-else-raw-eq32
unfolding shift_at
returns-else-raw-eq32 c = rw (c.in-5.is, ne_eqb _ _ c.if-raw-eq32.false) c.shift_right.ensures

pub returns-in_default : goal.returns-in_default
unfolding shift_at
returns-in_default c = simp (ne_eqb _ _ c.in_default.in_default-own.rest.0.1, ne_eqb _ _ c.in_default.in_default-own.rest.1)
