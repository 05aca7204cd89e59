-- What the functions of the C interface answer and leave, in plain words. Assumes nothing: these are definitions.
use Rattle.std.specs.Prelude.{ℕ, cond, eqb}
use Rattle.expand.specs.Expand.{Told}
use Rattle.interp.specs.Execute.{Executed}

-- what stands behind a lent pointer after a call that answers this number: if it is 0 the new content, else the old
abbrev pub left_after : {A : Type 0} → ℕ → A → A → A
left_after number new old = cond (eqb number 0) new old

-- the word lent for the count of rows
abbrev pub count_after : Told → ℕ → ℕ
count_after answer count = left_after answer.number answer.count count

-- the word lent for the live count of an execution
abbrev pub live_after : Executed → ℕ → ℕ
live_after answer live = left_after answer.number answer.live_count live

-- the word lent for the record count of an execution
abbrev pub record_count_after : Executed → ℕ → ℕ
record_count_after answer count = left_after answer.number answer.record_count count
