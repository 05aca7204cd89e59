-- The claims of a report. Assumes nothing.
use Rattle.std.proofs.Common.{◌≡◌, ℕ, zero, suc, ◌-◌, ◌*◌, ◌^◌, ◌≤◌, ◌<◌, false, List, [], ◌∷◌, ◌++◌, length, drop, sum, refl, ap, ne_eqb, arith}
use mathlib.Core.Logic.{⊎_elim}
use native.Mathlib.Nat.{mul-le-mul_left, eq-zero-or-pos}
use Rattle.std.proofs.lemmas.Bool.{or_parts}
use Rattle.refusal_table.proofs.Laws.{unmet}
use Rattle.lines.specs.Text.{codes, digits}
use Rattle.lines.specs.Lines.{number_text, line_of}
use Rattle.lines.specs.Claims.{Words}
use Rattle.lines.proofs.Claims.{line_holds}
use Rattle.lines.proofs.Decimal.{digits_below}
use Rattle.lines.proofs.Laws.{no_words, line_longer}
use Rattle.run_report.specs.Mean.{half_up, mean_of}
use Rattle.run_report.specs.Report.{bad_runs, bad_count, figures_of, text_of, report_refusal_of, report_answer_for, line_after}
use Rattle.run_report.specs.Claims.{ReportLaws}
use Rattle.run_report.proofs.Rounding.{mean_holds}
use Rattle.run_report.proofs.Sums.{counts_few, runs_of}

-- ---- what an accepted call has

record Fine (live records : List ℕ) : Type 0 where
  runs : bad_runs live records ≡ false
  counts : (bad_count live ≡ false) × (bad_count records ≡ false)

fine : (live records : List ℕ) (room : ℕ) → report_refusal_of live records room ≡ 0 → Fine live records
unfolding report_refusal_of
fine live records room e =
    let nine = unmet (bad_runs live records) 9 _ (λ z. omega arith) e in
    let ten = unmet _ 10 _ (λ z. omega arith) nine.1 in
    record { runs = nine.0; counts = or_parts _ _ ten.0 }

-- ---- its figures

-- the mean of counts of at most 2^32 is at most 2^32 hundredfold
mean_few : (total runs : ℕ) → 0 < runs → total ≤ 2 ^ 32 * runs → mean_of total runs ≤ 429496729600
mean_few total runs h l =
    let m = mean_of total runs in
    let fits = (mean_holds.bounds total runs h).above in
    ⊎_elim
    (λ (z : m - 429496729600 ≡ 0). omega arith)
    (λ (z : 0 < m - 429496729600). absurd (omega (arith, fits, mul-le-mul_left {m = 429496729601} {n = m} (2 * runs) (omega arith))))
    (eq-zero-or-pos (m - 429496729600))

record Small (live records : List ℕ) : Type 0 where
  runs : length live < 10 ^ 5
  sums : (sum live < 10 ^ 15) × (sum records < 10 ^ 15)
  mean : mean_of (sum live) (length live) < 10 ^ 12

small : (live records : List ℕ) → Fine live records → Small live records
small live records f =
    let runs = runs_of live records f.runs in
    let few = counts_few live f.counts.0 in
    record {
      runs = omega (arith, runs.most);
      sums = (omega (arith, few, runs.most), omega (arith, counts_few records f.counts.1, runs.same, runs.most));
      mean = omega (arith, mean_few (sum live) (length live) runs.some few);
    }

figures : (live records : List ℕ) → Fine live records → Words (figures_of live records)
figures live records f zero h = omega (arith, (small live records f).runs)
figures live records f (suc zero) h = omega (arith, (small live records f).sums)
figures live records f (suc (suc zero)) h = omega (arith, (small live records f).sums)
figures live records f (suc (suc (suc zero))) h = omega (arith, (small live records f).mean)
figures live records f (suc (suc (suc (suc i)))) h = absurd (omega arith)

-- ---- the line

held : (live records buffer : List ℕ) → report_refusal_of live records (length buffer) ≡ 0
    → line_after live records buffer ≡ text_of live records ++ drop (length (text_of live records)) buffer
held live records buffer e = rw e

-- no longer than the digits of its figures, three commas and a line feed
line_few : (live records : List ℕ) → Fine live records → length (text_of live records) ≤ 51
line_few live records f =
    let s = small live records f in
    let mean = mean_of (sum live) (length live) in
    omega (
      arith,
      line_longer (length live) (sum live ∷ sum records ∷ mean ∷ []),
      line_longer (sum live) (sum records ∷ mean ∷ []),
      line_longer (sum records) (mean ∷ []),
      line_longer mean [],
      no-line,
      digits_below 4 (length live) (omega (arith, s.runs)) s.runs,
      digits_below 14 (sum live) (omega (arith, s.sums)) s.sums.0,
      digits_below 14 (sum records) (omega (arith, s.sums)) s.sums.1,
      digits_below 11 mean (omega (arith, s.mean)) s.mean,
    )
  where
    no-line : length (line_of []) ≡ 0
    no-line = ap length (no_words [] (omega arith))

bytes_few : (n : ℕ) (text : List ℕ) → (n ≡ 0 → length text ≤ 51) → (report_answer_for n text).bytes ≤ 51
bytes_few zero text h = h refl
bytes_few (suc n) text h = rw (ne_eqb (suc n) 0 (λ e. omega arith)) (omega arith)

three : text_of (1 ∷ 2 ∷ 2 ∷ []) (2 ∷ 2 ∷ 2 ∷ []) ≡ codes "3,5,6,167" ++ (10 ∷ [])
unfolding half_up digits number_text line_of
three = refl

pub report_holds : ReportLaws
report_holds = record {
  reads = λ live records buffer e.
      rw (held live records buffer e) (line_holds.reads (figures_of live records) _ (omega arith) (figures live records (fine live records (length buffer) e)));
  ends = λ live records buffer e.
      rw (held live records buffer e, e) (line_holds.ends (figures_of live records) _ (omega arith) (figures live records (fine live records (length buffer) e)));
  longest = λ live records buffer. bytes_few (report_refusal_of live records (length buffer)) (text_of live records) (λ e. line_few live records (fine live records (length buffer) e));
  example = three;
}
