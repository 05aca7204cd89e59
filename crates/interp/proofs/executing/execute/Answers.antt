-- `interp::execute` meets its contract. Assumes nothing.
use Rattle.std.proofs.Common.{length, sym, refl}
use Rattle.std.proofs.lemmas.Result.{err_from_is_err_and}
use Rattle.interp.specs.Execute.{executed}
use Rattle.interp.proofs.refusals.Judged.{accepted_execution, refused_execution, accepted_is}
use Rattle.interp.proofs.executing.execute.Goals as goal

pub returns-in_err-judge_execution : goal.returns-in_err-judge_execution
returns-in_err-judge_execution c =
    let a = c.args in
    let p = err_from_is_err_and c.from_residual.result c.from_residual.ensures.1 in
    let answer = refused_execution _ a.rows.now a.input.now a.max_cycles a.records.now c.in_err-judge_execution.ensures in
    rw (p.1, p.2, answer) record { answer = refl; live = refl; count = refl; cursor = refl; records = refl }

pub run_padded-requires : goal.run_padded-requires
run_padded-requires c =
    let a = c.args in
    let ready = accepted_execution a.rows.now a.input.now a.max_cycles (length a.records.now) (sym c.in_ok-judge_execution.ensures) in
    (rw c.start-start.ensures ready.0, ready.1.1)

pub returns : goal.returns
unfolding executed
returns c =
    let a = c.args in
    let answer = accepted_is a.rows.now a.input.now a.max_cycles a.records.now c.in_ok-judge_execution.ensures in
    let done = rw c.start-start.ensures at c.run_padded.ensures in
    record {
      answer = rw answer refl;
      live = rw answer done.live;
      count = rw answer done.count;
      cursor = rw answer done.cursor;
      records = rw answer done.records;
    }
