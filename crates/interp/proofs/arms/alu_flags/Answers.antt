-- `interp::alu_flags` meets its contract. Assumes nothing.
use Rattle.std.proofs.Common.{arith, ne_eqb}
use Rattle.interp.specs.Cycle.{alu_flags}
use Rattle.interp.proofs.arms.Flags.{sub_flag_lt}
use Rattle.interp.proofs.arms.alu_flags.Goals as goal

pub overflow_add-result-in-0 : goal.overflow_add-result-in-0
overflow_add-result-in-0 c = simp c.sub_flag.ensures (omega (arith, sub_flag_lt c.args.raw))

pub returns-in-0 : goal.returns-in-0
unfolding alu_flags
returns-in-0 c = rw c.in-0.is (simp c.sub_flag.ensures)

pub returns-in-1 : goal.returns-in-1
unfolding alu_flags
returns-in-1 c = rw c.in-1.is

pub returns-in-2 : goal.returns-in-2
unfolding alu_flags
returns-in-2 c = rw c.in-2.is

pub returns-in-3 : goal.returns-in-3
unfolding alu_flags
returns-in-3 c = rw c.in-3.is

pub returns-in-4 : goal.returns-in-4
unfolding alu_flags
returns-in-4 c = rw c.in-4.is

pub returns-in-5 : goal.returns-in-5
unfolding alu_flags
returns-in-5 c = rw c.in-5.is

pub returns-in-6 : goal.returns-in-6
unfolding alu_flags
returns-in-6 c = rw c.in-6.is

pub returns-in-7 : goal.returns-in-7
unfolding alu_flags
returns-in-7 c = rw c.in-7.is

pub returns-in_default : goal.returns-in_default
unfolding alu_flags
returns-in_default c = let r = c.in_default.in_default-own.rest in simp (ne_eqb _ _ r.0.0.0.0.0.0.0.1, ne_eqb _ _ r.0.0.0.0.0.0.1, ne_eqb _ _ r.0.0.0.0.0.1, ne_eqb _ _ r.0.0.0.0.1, ne_eqb _ _ r.0.0.0.1, ne_eqb _ _ r.0.0.1, ne_eqb _ _ r.0.1, ne_eqb _ _ r.1)
