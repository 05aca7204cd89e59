-- `lines::digits::fill` meets its contract. Assumes nothing.
use Rattle.std.proofs.Common.{arith}
use Rattle.lines.proofs.Decimal.{digit_put, all-put}
use Rattle.lines.proofs.digits.fill.Goals as goal

pub loop-i-preserved : goal.loop-i-preserved
loop-i-preserved c = let l = c.loop-i in digit_put c.args.base _ l.rest l.out l.i _ (omega arith) (omega arith) c.digit_char.ensures l.invariant

pub returns : goal.returns
returns c = let l = c.loop-i in all-put c.args.base _ l.rest l.out l.i (omega arith) l.invariant
