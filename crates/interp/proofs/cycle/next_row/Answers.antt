-- `interp::next_row` meets its contract. Assumes nothing.
use Rattle.std.proofs.Common.{sym, ap, mod-eq_of_lt, add-one, arith}
use native.Mathlib.Nat.{mod_self}
use Rattle.interp.specs.Machine.{at}
use Rattle.interp.proofs.cycle.next_row.Goals as goal

pub returns-then-next-count : goal.returns-then-next-count
returns-then-next-count c =
    let a = c.args in
    rw (← add-one a.at.0, c.if-next-count.true) (ap at (sym (mod_self a.count)))

pub returns-else-next-count : goal.returns-else-next-count
returns-else-next-count c = rw (← add-one c.args.at.0) (ap at (sym (mod-eq_of_lt (omega arith))))
