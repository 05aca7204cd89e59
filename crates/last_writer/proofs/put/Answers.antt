-- `last_writer::put` meets its contract. Assumes nothing.
use Rattle.std.proofs.Common.{refl, sym}
use Rattle.last_writer.specs.Index.{entered}
use Rattle.last_writer.proofs.put.Goals as goal

pub returns-then-is_store : goal.returns-then-is_store
unfolding entered
returns-then-is_store c = rw (sym c.if-is_store.ensures) refl

pub returns-else-is_store : goal.returns-else-is_store
unfolding entered
returns-else-is_store c = rw (sym c.if-is_store.ensures) refl
