use Rattle.std.proofs.Common.{arith}
use Rattle.interp.proofs.values.Words.{mask6, masks}
use Rattle.interp.proofs.values.shift_right.Goals as goal

pub overflow_shr-result : goal.overflow_shr-result
overflow_shr-result c = omega (arith, mask6 c.args.k)

pub returns : goal.returns
returns c = simp masks
