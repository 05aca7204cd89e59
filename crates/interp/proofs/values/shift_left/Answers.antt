use Rattle.std.proofs.Common.{arith}
use Rattle.interp.proofs.values.Words.{mask6, masks}
use Rattle.interp.proofs.values.shift_left.Goals as goal

pub overflow_shl-result : goal.overflow_shl-result
overflow_shl-result c = omega (arith, mask6 c.args.k)

pub returns : goal.returns
returns c = simp masks
