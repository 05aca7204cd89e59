-- `interp::next_power_of_two` meets its contract. Assumes nothing.
use Rattle.std.proofs.Common.{arith}
use Rattle.interp.proofs.run.Powers.{only}
use Rattle.interp.proofs.run.next_power_of_two.Goals as goal

pub returns : goal.returns
returns c =
    let power = c.next_power_of_two.ensures in
    only _ _ (omega (arith, c.requires)) power.power power.lower_bound power.upper_bound
