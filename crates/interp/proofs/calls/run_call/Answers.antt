-- `interp::run_call` meets its contract. Assumes nothing.
use Rattle.std.proofs.Common.{refl}
use Rattle.interp.proofs.refusals.Judged.{accepted, refused_answer, accepted_answer}
use Rattle.interp.proofs.run.Halting.{ran_end, ran_words}
use Rattle.interp.proofs.calls.run_call.Goals as goal

pub run_padded-ran-requires : goal.run_padded-ran-requires
run_padded-ran-requires c =
    let a = c.args in
    rw (c.live_limit-limit.ensures, c.length.ensures) (accepted a.rows.now a.cursor a.request _ c.in-Ok.ensures)

pub returns-in-Err : goal.returns-in-Err
returns-in-Err c =
    let a = c.args in
    let answer = refused_answer c.in-Err.why a.request a.rows.now a.cursor a.records.now c.in-Err.ensures in
    record { answer = rw answer refl; cursor = rw answer refl; records = rw answer refl }

pub returns-in-Ok : goal.returns-in-Ok
returns-in-Ok c =
    let a = c.args in
    let rows = a.rows.now in
    let answer = accepted_answer a.request rows a.cursor a.records.now c.in-Ok.ensures in
    let done = rw (c.live_limit-limit.ensures, c.length.ensures) at c.run_padded-ran.ensures in
    record {
      answer = rw answer refl;
      cursor = rw (answer, ← ran_end rows a.request a.cursor) done.cursor;
      records = rw (answer, ← ran_words rows a.request a.cursor _) done.records;
    }
