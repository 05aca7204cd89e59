-- The report over many runs (02, T-04): its line, its table of refusals, and what the call answers and leaves. `first_met` is of
-- refusal_table's Table, `line_of` and `written` are of lines' Lines. Assumes nothing: these are definitions.
use Rattle.std.specs.Prelude.{ℕ, ◌^◌, Bool, not, cond, ◌||◌, Result, Ok, Err, List, [], ◌∷◌, length, ◌==◌, nat_lt, sum}
use Rattle.std.specs.List.{list_any}
use Rattle.refusal_table.specs.Table.{Line, line, first_met}
use Rattle.lines.specs.Lines.{line_of, written}
use Rattle.run_report.specs.declared.Refusal.{Refusal}
use Rattle.run_report.specs.declared.Refusal.TheVariants.{BadRuns, BadCount, Short}
use Rattle.run_report.specs.Mean.{mean_of}

-- ---- the line

-- its figures: runs, live cycles, records, and the mean live count in hundredths
abbrev pub figures_of : List ℕ → List ℕ → List ℕ
figures_of live records = length live ∷ sum live ∷ sum records ∷ mean_of (sum live) (length live) ∷ []

-- the line of them, parted by commas, with its line feed
abbrev pub text_of : List ℕ → List ℕ → List ℕ
text_of live records = line_of (figures_of live records)

-- ---- refusals

-- the lists are of unequal length, or have no runs or over 65,536
unfoldable pub bad_runs : List ℕ → List ℕ → Bool
bad_runs live records = not (length live == length records) || (length live == 0) || nat_lt 65536 (length live)

-- a count is above 2^32
unfoldable pub bad_count : List ℕ → Bool
bad_count counts = list_any (nat_lt (2 ^ 32)) counts

-- the table of refusals, in the order in which they are tested, with so many bytes of room
abbrev pub report_lines : List ℕ → List ℕ → ℕ → List Line
report_lines live records room =
    line 9 (bad_runs live records)
    ∷ line 10 (bad_count live || bad_count records)
    ∷ line 6 (nat_lt room (length (text_of live records)))
    ∷ []

-- the number of the call's answer
unfoldable pub report_refusal_of : List ℕ → List ℕ → ℕ → ℕ
report_refusal_of live records room = first_met (report_lines live records room)

-- the paper's number of a refusal
abbrev pub report_refusal_number : Refusal → ℕ
report_refusal_number BadRuns = 9
report_refusal_number BadCount = 10
report_refusal_number Short = 6

-- ---- the call

-- what an answer tells: its number, 0 for accepted, and the line's length in bytes, 0 for refused
pub record Told : Type 0 where
  pub number : ℕ
  pub bytes : ℕ

-- the number and the bytes of each case of an answer
abbrev pub report_told_of : Result ℕ Refusal → Told
report_told_of (Ok n) = record { number = 0; bytes = n }
report_told_of (Err why) = record { number = report_refusal_number why; bytes = 0 }

-- the answer with the number n
abbrev pub report_answer_for : ℕ → List ℕ → Told
report_answer_for n text = record { number = n; bytes = cond (n == 0) (length text) 0 }

-- what the call answers, of the two lists and the line buffer lent
abbrev pub report_of : List ℕ → List ℕ → List ℕ → Told
report_of live records buffer = report_answer_for (report_refusal_of live records (length buffer)) (text_of live records)

-- the line buffer after the call: the line, and past it what was lent; a refusal leaves all as lent
abbrev pub line_after : List ℕ → List ℕ → List ℕ → List ℕ
line_after live records buffer =
    cond (report_refusal_of live records (length buffer) == 0) (written (text_of live records) buffer) buffer
