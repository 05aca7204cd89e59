-- `lines::digits::fill` meets its contract. Assumes nothing.
use Rattle.std.proofs.Common.{length}
use Rattle.lines.specs.Text.{last_digits}
use Rattle.lines.proofs.Decimal.{Filling}
use Rattle.lines.proofs.digits.fill.Given as goal

abbrev pub invariant-loop-i : goal.invariant-loop-i
invariant-loop-i l = Filling l.base (last_digits l.base (length l.fn.out) l.v) l.i l.rest l.out
