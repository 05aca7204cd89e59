use Rattle.std.proofs.Common.{ne_eqb}
use Rattle.interp.specs.Values.{branch_taken}
use Rattle.interp.proofs.values.branch_taken.Goals as goal

pub returns-in-0 : goal.returns-in-0
unfolding branch_taken
returns-in-0 c = rw c.in-0.is

pub returns-in-1 : goal.returns-in-1
unfolding branch_taken
returns-in-1 c = rw c.in-1.is

pub returns-in-4 : goal.returns-in-4
unfolding branch_taken
returns-in-4 c = rw c.in-4.is c.signed_less.ensures

pub returns-in-5 : goal.returns-in-5
unfolding branch_taken
returns-in-5 c = simp (c.in-5.is, c.signed_less-in-5.ensures)

pub returns-in-6 : goal.returns-in-6
unfolding branch_taken
returns-in-6 c = rw c.in-6.is

pub returns-in-7 : goal.returns-in-7
unfolding branch_taken
returns-in-7 c = rw c.in-7.is

pub returns-in_default : goal.returns-in_default
unfolding branch_taken
returns-in_default c = let r = c.in_default.in_default-own.rest in simp (ne_eqb _ _ r.0.0.0.0.0.1, ne_eqb _ _ r.0.0.0.0.1, ne_eqb _ _ r.0.0.0.1, ne_eqb _ _ r.0.0.1, ne_eqb _ _ r.0.1, ne_eqb _ _ r.1)
