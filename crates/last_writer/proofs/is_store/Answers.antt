-- `last_writer::is_store` meets its contract. Assumes nothing.
use Rattle.std.proofs.Common.{refl}
use Rattle.interp.specs.Replay.{stored}
use Rattle.last_writer.proofs.is_store.Goals as goal

pub returns : goal.returns
unfolding stored
returns c = refl
