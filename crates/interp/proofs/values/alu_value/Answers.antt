use Rattle.std.proofs.Common.{ap, ◌∙◌, ne_eqb}
use Rattle.interp.specs.Values.{alu_value, bool_word}
use Rattle.interp.proofs.values.alu_value.Goals as goal

pub returns-in-0 : goal.returns-in-0
unfolding alu_value
returns-in-0 c = rw c.in-0.is c.add_or_sub.ensures

pub returns-in-1 : goal.returns-in-1
unfolding alu_value
returns-in-1 c = rw c.in-1.is c.shift_by.ensures

pub returns-in-2 : goal.returns-in-2
unfolding alu_value
returns-in-2 c = rw c.in-2.is (c.bool_word.ensures ∙ ap bool_word c.signed_less.ensures)

pub returns-in-3 : goal.returns-in-3
unfolding alu_value
returns-in-3 c = rw c.in-3.is c.bool_word-in-3.ensures

pub returns-in-4 : goal.returns-in-4
unfolding alu_value
returns-in-4 c = rw c.in-4.is

pub returns-in-5 : goal.returns-in-5
unfolding alu_value
returns-in-5 c = rw c.in-5.is c.shift_by-in-5.ensures

pub returns-in-6 : goal.returns-in-6
unfolding alu_value
returns-in-6 c = rw c.in-6.is

pub returns-in-7 : goal.returns-in-7
unfolding alu_value
returns-in-7 c = rw c.in-7.is

pub returns-in_default : goal.returns-in_default
unfolding alu_value
returns-in_default c = let r = c.in_default.in_default-own.rest in simp (ne_eqb _ _ r.0.0.0.0.0.0.0.1, ne_eqb _ _ r.0.0.0.0.0.0.1, ne_eqb _ _ r.0.0.0.0.0.1, ne_eqb _ _ r.0.0.0.0.1, ne_eqb _ _ r.0.0.0.1, ne_eqb _ _ r.0.0.1, ne_eqb _ _ r.0.1, ne_eqb _ _ r.1)
