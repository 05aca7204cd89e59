-- `last_writer::judge` meets its contract. Assumes nothing.
use Rattle.std.proofs.Common.{◌≡◌, ℕ, Bool, List, length, sym, ap, ap₂, ◌∙◌, arith}
use Rattle.refusal_table.specs.Table.{first_met}
use Rattle.interp.specs.Replay.{records_in}
use Rattle.log_records.specs.Records.{count}
use Rattle.log_records.proofs.Laws.{partial, taken, length-records}
use Rattle.last_writer.specs.Index.{in_range, record_lines}
use Rattle.last_writer.proofs.Answers.{partial-refused, whole-passed, unmet-records}
use Rattle.last_writer.proofs.judge.Goals as goal

pub returns-in_default-clause-number : goal.returns-in_default-clause-number
returns-in_default-clause-number c = partial-refused c.args.log.now c.args.before c.args.room (partial _ c.in_default.ensures.records)

-- as many records as the log has
many : (rs : List (List ℕ)) (log : List ℕ) → rs ≡ records_in log → length rs ≡ count log
many rs log e = ap length e ∙ length-records log

pub returns-clause-number : goal.returns-clause-number
returns-clause-number c =
    let (whole, is) = taken _ _ c.in-Some.ensures.records in
    c.judge_records.ensures
    ∙ ap₂ (λ (i : Bool) (n : ℕ). first_met (record_lines i n c.args.before c.args.room)) (c.enter_all-inside.ensures.range ∙ ap in_range is) (many _ c.args.log.now is)
    ∙ whole-passed c.args.log.now c.args.before c.args.room whole

pub returns-clause-held : goal.returns-clause-held
returns-clause-held c e =
    let (whole, is) = taken _ _ c.in-Some.ensures.records in
    let (inside, few, room) = unmet-records c.enter_all-inside.result (length c.in-Some.records.now) c.args.before c.args.room (sym c.judge_records.ensures ∙ e) in
    let from : c.min.result ≡ c.args.before = omega (arith, c.min.ensures, few) in
    rw (← is, ← from) (c.enter_all-inside.ensures.held inside)
