-- `lines::put_answer` meets its contract. Assumes nothing.
use mathlib.Core.Path.{sym}
use mathlib.Core.List.{[], ◌∷◌, append-nil}
use Prim.Native.Nat.{◌-◌, ◌*◌, ◌≤◌}
use native.Mathlib.Omega.{arith}
use lib.ListN.{length, take, length-append}
use Rattle.lines.specs.Lines.{line_of, lines_of, answer_text}
use Rattle.lines.proofs.Laws.{Put, first_put, part_fits, part_put, all_put, first_records, records_text, answer_fits}
use Rattle.lines.proofs.put_answer.Goals as goal
use Rattle.lines.proofs.put_answer.Goals.{After-min-records, After-put_line-first}

room : (c : After-min-records) → length (answer_text c.args.live c.min-records.result c.args.output c.args.words.now) ≤ length c.args.out.now
room c = omega (arith, answer_fits c.args.live c.min-records.result c.args.output c.args.words.now (omega arith))

pub put_line-first-requires : goal.put_line-first-requires
unfolding answer_text
put_line-first-requires c =
    let d = (goal.at.put_line-first-requires c).After-min-records in
    let a = c.args in
    omega (arith, room d, length-append (line_of (a.live ∷ c.min-records.result ∷ a.output ∷ [])) (lines_of c.min-records.result a.words.now))

-- the first line is put, and the records are left
first_line_put : (c : After-put_line-first)
    → let records = c.min-records.result in
    let words = c.args.words.now in
    Put c.args.out.now c.put_line-first.new.out c.put_line-first.result (answer_text c.args.live records c.args.output words) (records_text (take (17 * records) words))
unfolding answer_text
first_line_put c =
    let first = c.put_line-first.ensures in
    rw (first_records c.min-records.result c.args.words.now (omega arith)) (first_put _ _ first.length first.text)

pub put_lines-requires : goal.put_lines-requires
put_lines-requires c =
    let d = (goal.at.put_lines-requires c).After-put_line-first in
    part_fits _ [] (first_line_put d) (sym (append-nil _)) (room (goal.at.put_lines-requires c).After-min-records) _ (omega arith)

pub returns : goal.returns
returns c =
    let d = (goal.at.returns c).After-put_line-first in
    let put = c.put_lines.ensures in
    let all = all_put (part_put _ [] (first_line_put d) (sym (append-nil _)) (room (goal.at.returns c).After-min-records) (91455 - c.put_line-first.result) (omega arith) put.length put.text) in
    rw (← c.min-records.ensures) (record { length = all.0; text = all.1 })
