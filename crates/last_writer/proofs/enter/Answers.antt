-- `last_writer::enter` meets its contract. Assumes nothing.
use Rattle.std.proofs.Common.{sym}
use Rattle.last_writer.proofs.Range.{inside_has}
use Rattle.last_writer.proofs.enter.Goals as goal

pub put-requires : goal.put-requires
put-requires c = let i = inside_has c.args.r.now (sym c.if-not-is_inside.ensures) in (i.register, i.address)
