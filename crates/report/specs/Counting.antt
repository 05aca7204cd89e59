-- The counts of a list's lines. Assumes nothing: these are definitions.
use Rattle.std.specs.Prelude.{◌≡◌, ℕ, ◌+◌, ◌%◌, ◌^◌, ◌⊎◌, List, Option, None, Some, Result, Ok, Err}
use Rattle.std.specs.declared.io.Error.{Error}
use Rattle.report.specs.declared.Counts.{Counts}
use Rattle.report.specs.declared.Report.{Report}

-- n more, which wraps at 2^64
abbrev pub more : ℕ → ℕ → ℕ
more n count = (count + n) % 2 ^ 64

-- one more, likewise
abbrev pub one_more : ℕ → ℕ
one_more count = more 1 count

-- so many lines taken, characters compared, lines passed over and lines wrong
abbrev pub counts_of : ℕ → ℕ → ℕ → ℕ → Counts
counts_of lines characters passed wrong =
    record { lines = lines; characters = characters; passed = passed; wrong = wrong }

-- before the first line
abbrev pub no_counts : Counts
no_counts = counts_of 0 0 0 0

-- n lines more
abbrev pub with_lines : ℕ → Counts → Counts
with_lines n c = counts_of (more n c.lines) c.characters c.passed c.wrong

-- n characters more are compared, and are the same
abbrev pub with_same : ℕ → Counts → Counts
with_same n c = counts_of c.lines (more n c.characters) c.passed c.wrong

-- one more of the lines is passed over
abbrev pub with_passed : Counts → Counts
with_passed c = counts_of c.lines c.characters (one_more c.passed) c.wrong

-- one more of the lines is wrong
abbrev pub with_wrong : Counts → Counts
with_wrong c = counts_of c.lines c.characters c.passed (one_more c.wrong)

-- the list ends inside a line, which is taken and is wrong
abbrev pub with_cut : Counts → Counts
with_cut c = with_wrong (with_lines 1 c)

-- a report after the next line was to be taken: the line is counted; where there is none, the list ends behind a line or
-- inside one; a failed read changes nothing
abbrev pub IsAfterLine : Result (Option (List ℕ)) Error → Report → Report → Type 0
IsAfterLine (Ok (Some line)) old new = new ≡ record old { counts = with_lines 1 old.counts }
IsAfterLine (Ok None) old new = (new ≡ old) ⊎ (new ≡ record old { counts = with_cut old.counts })
IsAfterLine (Err why) old new = new ≡ old
