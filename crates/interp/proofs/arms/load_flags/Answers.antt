-- `interp::load_flags` meets its contract. Assumes nothing.
use Rattle.std.proofs.Common.{arith}
use Rattle.interp.proofs.arms.Flags.{load_flag_lt}
use Rattle.interp.proofs.arms.load_flags.Goals as goal

pub overflow_add-result-3 : goal.overflow_add-result-3
overflow_add-result-3 c = simp c.load_flag.ensures (omega (arith, load_flag_lt c.args.funct3))

pub returns : goal.returns
returns c = simp c.load_flag.ensures
