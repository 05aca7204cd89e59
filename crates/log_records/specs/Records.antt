-- A log taken as records: how many it has, whether it is a whole number of them, and the line of the tables of refusals that it
-- meets else (02, T-02). `records_in` is of interp's Replay. Assumes nothing: these are definitions.
use Rattle.std.specs.Prelude.{ℕ, ◌/◌, ◌%◌, Bool, not, cond, List, length, ◌==◌, Option, None, Some}
use Rattle.refusal_table.specs.Table.{Line, line}
use Rattle.interp.specs.Replay.{records_in}

-- how many records a log has
abbrev pub count : List ℕ → ℕ
count log = length log / 17

-- whether a log is a whole number of records
abbrev pub is_whole : List ℕ → Bool
is_whole log = length log % 17 == 0

-- the records of a log that is a whole number of them
unfoldable pub whole_records : List ℕ → Option (List (List ℕ))
whole_records log = cond (is_whole log) (Some (records_in log)) None

-- refusal 7: the log is no whole number of records
abbrev pub whole_line : List ℕ → Line
whole_line log = line 7 (not (is_whole log))
