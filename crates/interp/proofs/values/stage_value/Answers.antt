use Rattle.std.proofs.Common.{mod-eq_of_lt}
use Rattle.interp.proofs.values.Shifts.{amount_lt}
use Rattle.interp.proofs.values.stage_value.Goals as goal

pub returns : goal.returns
returns c =
    let a = c.args in
    rw (← mod-eq_of_lt (amount_lt a.stage a.b), ← c.stage_amount.ensures) c.shift_by.ensures
