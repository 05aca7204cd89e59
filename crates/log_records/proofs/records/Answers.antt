-- `log_records::records` meets its contract. Assumes nothing.
use Rattle.std.proofs.Common.{◌≡◌, ◌%◌, true, false, length, refl, sym, ◌∙◌, eqb}
use Rattle.interp.specs.Replay.{records_in}
use Rattle.log_records.specs.Records.{whole_records}
use Rattle.log_records.proofs.records.Goals as goal

pub returns-then-is_empty-clause-records : goal.returns-then-is_empty-clause-records
unfolding whole_records records_in
returns-then-is_empty-clause-records c =
    let log = c.args.log.now in
    let whole : eqb (length log % 17) 0 ≡ true = rw (← c.as_chunks.ensures.back_len) (sym c.is_empty.ensures ∙ c.if-is_empty.true) in
    rw (c.as_chunks.ensures.front, whole) refl

pub returns-else-is_empty-clause-records : goal.returns-else-is_empty-clause-records
unfolding whole_records
returns-else-is_empty-clause-records c =
    let log = c.args.log.now in
    let partial : eqb (length log % 17) 0 ≡ false = rw (← c.as_chunks.ensures.back_len) (sym c.is_empty.ensures ∙ c.if-is_empty.false) in
    rw partial refl
