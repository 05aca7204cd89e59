use Rattle.calls.proofs.Turns.{parsed_empty}
use Rattle.calls.proofs.line_of.Goals as goal

pub returns-in_default : goal.returns-in_default
returns-in_default c = parsed_empty c.args.bytes.now c.in_default.len_below
