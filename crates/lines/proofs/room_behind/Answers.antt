-- `lines::room_behind` meets its contract. Assumes nothing.
use Rattle.std.proofs.Common.{get_or, ◌∙◌, arith}
use Rattle.lines.proofs.Decimal.{digits-few}
use Rattle.lines.proofs.Laws.{line_next, line_over, line_fits}
use Rattle.lines.proofs.room_behind.Goals as goal

pub overflow_add-decimal_length : goal.overflow_add-decimal_length
overflow_add-decimal_length c = let word = get_or c.args.words.now c.loop-word.word-index 0 in omega (arith, c.decimal_length.ensures, digits-few 20 word)

pub returns-in_err-left : goal.returns-in_err-left
returns-in_err-left c =
    c.from_residual.ensures ∙ line_over c.args.words.now c.args.room c.loop-word.left c.loop-word.word-index c.loop-word.invariant (omega arith) c.decimal_length.ensures (omega (arith, c.in_err-left.ensures))

pub loop-word-preserved : goal.loop-word-preserved
loop-word-preserved c =
    omega (arith, c.loop-word.invariant, line_next c.args.words.now c.loop-word.word-index (omega arith), c.decimal_length.ensures, c.in_ok-left.ensures)

pub returns : goal.returns
returns c = line_fits c.args.words.now c.args.room c.loop-word.left c.loop-word.word-index c.loop-word.invariant (omega arith)
