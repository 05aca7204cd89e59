-- `interp::run_padded` meets its contract. Assumes nothing.
use Rattle.std.proofs.Common.{◌≡◌, ◌≤◌, sym, ap, ◌∙◌, arith}
use Rattle.interp.specs.Execute.{live_count_of}
use Rattle.interp.specs.Code.{whole, due_of}
use Rattle.interp.proofs.arms.Lawful.{row_in}
use Rattle.interp.proofs.run.Halting.{count_most, padded_cursor, padded_words}
use Rattle.interp.proofs.run.run_padded.Goals.{After-run_live-stopped}
use Rattle.interp.proofs.run.run_padded.Goals as goal

pub run_live-stopped-requires : goal.run_live-stopped-requires
run_live-stopped-requires c = rw c.from-start.ensures c.requires.0

-- at most `limit` cycles are live
most : (c : After-run_live-stopped) → c.run_live-stopped.result.count ≤ c.args.limit
most c =
    let a = c.args in
    omega (arith, c.run_live-stopped.ensures.count, count_most a.rows.now a.limit (whole c.from-start.result (record { regs = a.cursor.regs; ram = a.cursor.ram })))

pub due_of-count-requires : goal.due_of-count-requires
due_of-count-requires c = omega (arith, most (goal.at.due_of-count-requires c).After-run_live-stopped, c.requires.0.fits, c.well_formed.1.1.1.1.0.1)

pub pad_rest-requires : goal.pad_rest-requires
pad_rest-requires c =
    let ran = c.run_live-stopped in
    let upto = most (goal.at.pad_rest-requires c).After-run_live-stopped in
    let due = c.due_of-count.ensures in
    (rw ran.ensures.row (row_in _), (omega (arith, due, c.requires.1.enough _ upto), omega (arith, due, c.requires.1.fits _ upto)))

pub returns : goal.returns
returns c =
    let a = c.args in
    let rows = a.rows.now in
    let stopped = c.run_live-stopped.result in
    let ran = rw c.from-start.ensures at c.run_live-stopped.ensures in
    let due = c.due_of-count.result in
    let due-is : due ≡ due_of a.due (live_count_of rows a.limit a.cursor) = c.due_of-count.ensures ∙ ap (due_of a.due) ran.count in
    let enough : stopped.count ≤ due = omega (arith, c.due_of-count.ensures, c.requires.1.enough _ (most (goal.at.returns c).After-run_live-stopped)) in
    let pad = c.pad_rest.ensures in
    record {
      live = ran.count;
      count = due-is;
      cursor =
          rw (sym due-is)
          (c.whole_of-after.ensures ∙ padded_cursor rows stopped.row a.limit stopped.count due a.cursor a.records.now _ ran.count ran.row ran.cursor _ pad.cursor);
      records =
          rw (sym due-is)
          (padded_words rows stopped.row a.limit stopped.count due a.cursor a.records.now _ ran.count ran.row ran.cursor enough _ _ ran.records pad.records);
    }
