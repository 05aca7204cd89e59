-- `last_writer::add` meets its contract. Assumes nothing.
use Rattle.std.proofs.Common.{ap, ◌∙◌, take}
use Rattle.last_writer.specs.Index.{Indexed}
use Rattle.last_writer.proofs.Answers.{answer-start}
use Rattle.last_writer.proofs.add.Goals as goal

pub returns-clause-answer : goal.returns-clause-answer
returns-clause-answer c =
    c.answer.ensures.answer ∙ ap (λ (a : Indexed). a.number) (answer-start c.args.log.now c.args.before c.front.result (take 320 c.args.index.now) c.args.index.now c.front.ensures)

pub returns-clause-index : goal.returns-clause-index
returns-clause-index c =
    c.answer.ensures.index ∙ ap (λ (a : Indexed). a.index) (answer-start c.args.log.now c.args.before c.front.result (take 320 c.args.index.now) c.args.index.now c.front.ensures)
