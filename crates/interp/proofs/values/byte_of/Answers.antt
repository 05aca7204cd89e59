use Rattle.std.proofs.Common.{arith}
use Rattle.interp.proofs.values.Words.{mask3, masks}
use Rattle.interp.proofs.values.byte_of.Goals as goal

pub overflow_mul-result : goal.overflow_mul-result
overflow_mul-result c = omega (arith, mask3 c.args.i)

pub overflow_shr-result : goal.overflow_shr-result
overflow_shr-result c = omega (arith, mask3 c.args.i)

pub returns : goal.returns
returns c = simp masks
