-- What is claimed of a report beyond its definition (02, T-04). The function `report_laws` of src/lib.rt has the whole for its
-- contract. `words_of` and `behind_line` are of lines' Claims. Assumes nothing: these are definitions.
use Rattle.std.specs.Prelude.{ℕ, ◌≡◌, ◌≤◌, List, [], ◌∷◌, ◌++◌, drop}
use Rattle.lines.specs.Text.{codes}
use Rattle.lines.specs.Claims.{words_of, behind_line}
use Rattle.run_report.specs.Report.{figures_of, text_of, report_of, line_after}

-- the contract of `report_laws`
pub record ReportLaws : Type 0 where
  -- after an accepted call the first line of the buffer reads back as the four figures
  pub reads : (live records buffer : List ℕ) → (report_of live records buffer).number ≡ 0 → words_of (line_after live records buffer) ≡ figures_of live records
  -- it has as many bytes as the call answers: behind its line feed stands what was lent
  pub ends : (live records buffer : List ℕ) → (report_of live records buffer).number ≡ 0
      → behind_line (line_after live records buffer) ≡ drop (report_of live records buffer).bytes buffer
  -- no line is longer than 51 bytes
  pub longest : (live records buffer : List ℕ) → (report_of live records buffer).bytes ≤ 51
  -- the line of three runs
  pub example : text_of (1 ∷ 2 ∷ 2 ∷ []) (2 ∷ 2 ∷ 2 ∷ []) ≡ codes "3,5,6,167" ++ (10 ∷ [])
