-- `trace_answer::word_at` meets its contract. Assumes nothing.
use mathlib.Core.Path.{◌∙◌}
use native.Mathlib.Omega.{arith}
use Rattle.trace_answer.proofs.Laws.{word_is}
use Rattle.trace_answer.proofs.word_at.Goals as goal

pub returns : goal.returns
returns c = c.from_le_bytes.ensures ∙ word_is c.args.bytes.now c.args.i c.as_chunks.ensures.front (omega arith)
