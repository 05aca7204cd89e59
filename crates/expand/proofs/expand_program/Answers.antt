use Rattle.std.proofs.Common.{ap, sym, length}
use Rattle.expand.specs.Expand.{Told}
use Rattle.expand.proofs.Filled.{has_room}
use Rattle.expand.proofs.expand_program.Goals as goal

pub fill-requires : goal.fill-requires
fill-requires c =
    let a = c.args in
    has_room a.program.now (length a.rows.now) (length a.starts.now) (sym (ap (λ (t : Told). t.number) c.in_ok-n.ensures))
