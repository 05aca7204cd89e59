-- `last_writer::answer` meets its contract. Assumes nothing.
use Rattle.std.proofs.Common.{ℕ, ◌++◌, List, drop, sym, ap, ◌∙◌}
use lib.Seq.{length-take-le}
use Rattle.last_writer.proofs.Answers.{ok-number, outcome-number, refused-index, accepted-fine, answer-index}
use Rattle.last_writer.proofs.answer.Goals as goal

pub slice_bounds-copy_from_slice-end-then-is_ok : goal.slice_bounds-copy_from_slice-end-then-is_ok
slice_bounds-copy_from_slice-end-then-is_ok c =
    let room = (accepted-fine _ _ _ c.args.held _ c.judge-outcome.ensures.number c.if-is_ok.ensures.value).room in
    sym (length-take-le 320 c.args.index.now room)

pub copy_from_slice-requires : goal.copy_from_slice-requires
copy_from_slice-requires c =
    let room = (accepted-fine _ _ _ c.args.held _ c.judge-outcome.ensures.number c.if-is_ok.ensures.value).room in
    length-take-le 320 c.args.index.now room ∙ sym c.judge-outcome.array_long

pub returns-then-is_ok-clause-answer : goal.returns-then-is_ok-clause-answer
returns-then-is_ok-clause-answer c = outcome-number _ _ _ c.args.held _ c.judge-outcome.ensures.number

pub returns-then-is_ok-clause-index : goal.returns-then-is_ok-clause-index
returns-then-is_ok-clause-index c =
    let fine = accepted-fine _ _ _ c.args.held _ c.judge-outcome.ensures.number c.if-is_ok.ensures.value in
    let held = c.judge-outcome.ensures.held (ok-number _ c.if-is_ok.ensures.value) in
    ap (λ (l : List ℕ). l ++ drop 320 c.args.index.now) (c.copy_from_slice.ensures.after ∙ held)
    ∙ sym (answer-index c.args.log.now c.args.before c.args.held c.args.index.now fine)

pub returns-else-is_ok-clause-answer : goal.returns-else-is_ok-clause-answer
returns-else-is_ok-clause-answer c = outcome-number _ _ _ c.args.held _ c.judge-outcome.ensures.number

pub returns-else-is_ok-clause-index : goal.returns-else-is_ok-clause-index
returns-else-is_ok-clause-index c = refused-index _ c.args.log.now c.args.before c.args.held c.args.index.now c.judge-outcome.ensures.number c.if-is_ok.ensures.value
