-- `trace_answer::run` meets its contract. Assumes nothing.
use mathlib.Core.Path.{◌≡◌, refl, sym}
use lib.ListN.{take, replicate}
use Rattle.std.proofs.lemmas.Result.{err_from_is_err_and}
use Rattle.expand.specs.Expand.{expansion_of}
use Rattle.interp.specs.Execute.{execute_of}
use Rattle.trace_answer.proofs.Laws.{accepted_rows, told_no_program, told_refused, told_accepted, count_most}
use Rattle.trace_answer.proofs.run.Goals as goal
use Rattle.trace_answer.proofs.run.Goals.{After-execute}

pub returns-in_err-count-clause-text : goal.returns-in_err-count-clause-text
returns-in_err-count-clause-text c =
    let p = err_from_is_err_and c.from_residual.result c.from_residual.ensures.1 in
    let a = c.args in
    rw (p.1, p.2)
    (sym (told_no_program a.program.now (replicate 6132 0) (replicate 1022 0) c.in_err-count.field-0.0 a.input.now a.max a.records.now c.requires.0 refl refl c.in_err-count.ensures.answer))

-- the rows that run are the program's expansion
rows_are : (c : After-execute) → take c.in_ok-count.count c.expand_program.new.rows ≡ expansion_of c.args.program.now
rows_are c =
    rw c.in_ok-count.ensures.rows
    (accepted_rows c.args.program.now (replicate 6132 0) (replicate 1022 0) c.in_ok-count.count c.in_ok-count.ensures.answer)

pub returns-in_err-execute-clause-text : goal.returns-in_err-execute-clause-text
returns-in_err-execute-clause-text c =
    let p = err_from_is_err_and c.from_residual-in_err-execute.result c.from_residual-in_err-execute.ensures.1 in
    let rows = rows_are (goal.at.returns-in_err-execute-clause-text c).After-execute in
    rw (p.1, ← rows) (told_refused _ c.in_err-execute.field-0.0 p.0 p.2 c.in_err-execute.ensures.answer)

pub returns : goal.returns
returns c =
    let a = c.args in
    let rows = rows_are (goal.at.returns c).After-execute in
    let e = execute_of (take c.in_ok-count.count c.expand_program.new.rows) a.input.now a.max a.records.now in
    let made = c.in_ok-execute.ensures in
    let none : 0 ≡ e.number = made.answer in
    record {
      text = rw (← rows, told_accepted e none, made.live, made.count, made.cursor, made.records);
      few = rw made.count (count_most (take c.in_ok-count.count c.expand_program.new.rows) a.input.now a.max a.records.now c.requires.1 (sym none));
    }
