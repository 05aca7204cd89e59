-- `lines::put_number` meets its contract. Assumes nothing.
use mathlib.Core.Path.{refl}
use native.Mathlib.Omega.{arith}
use Rattle.lines.specs.Text.{decimal}
use Rattle.lines.specs.Lines.{number_text}
use Rattle.lines.proofs.Laws.{Ended, ended, word_longer}
use Rattle.lines.proofs.put_number.Goals as goal
use Rattle.lines.proofs.put_number.Goals.{After-put_decimal-digits}

pub put_decimal-digits-requires : goal.put_decimal-digits-requires
put_decimal-digits-requires c = omega (arith, word_longer c.args.n c.args.mark)

at_end : (c : After-put_decimal-digits) → Ended (number_text c.args.n c.args.mark) c.args.out.now c.put_decimal-digits.new.out c.put_decimal-digits.result c.args.mark
unfolding number_text
at_end c = ended (decimal c.args.n) refl c.requires c.put_decimal-digits.ensures.length c.put_decimal-digits.ensures.text

pub bounds-out-digits : goal.bounds-out-digits
bounds-out-digits c = (at_end (goal.at.bounds-out-digits c).After-put_decimal-digits).room

pub returns : goal.returns
returns c = let e = at_end (goal.at.returns c).After-put_decimal-digits in record { length = e.length; text = e.text }
