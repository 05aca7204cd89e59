-- `interp::record_of` meets its contract. Assumes nothing.
use Rattle.std.proofs.Common.{refl}
use Rattle.interp.specs.Cycle.{record_of}
use Rattle.interp.proofs.cycle.record_of.Goals as goal

pub returns : goal.returns
unfolding record_of
returns c = refl
