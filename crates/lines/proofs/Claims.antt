-- The laws of `decimal`, by the steps of what std prints, and those of lines. Assumes nothing.
use mathlib.Core.Path.{◌≡◌, refl, sym, ◌∙◌}
use mathlib.Core.Logic.{⊎_elim}
use mathlib.Core.List.{List, [], ◌∷◌, ◌++◌}
use Prim.Native.Nat.{ℕ, suc, ◌+◌, ◌-◌, ◌*◌, ◌/◌, ◌%◌, ◌^◌, ◌≤◌, ◌<◌}
use native.Mathlib.Nat.{eq-or-lt_of_le, not-suc-le-zero}
use native.Mathlib.Omega.{arith}
use lib.ListN.{length, get_or, length-append, get_or-append}
use lib.Seq.{get_or_at}
use Rattle.std.proofs.lemmas.Fmt.{decimal_by_steps_wide}
use Rattle.std.proofs.Common.{ne_eqb}
use mathlib.Core.List.{append_assoc}
use mathlib.Core.Path.{ap}
use Rattle.lines.specs.Lines.{number_text, line_of}
use Rattle.lines.specs.Text.{decimal}
use Rattle.lines.specs.Claims.{value_from, Spells, Decimal, words_from, words_of, behind_line, Words, LineLaws}
use Rattle.lines.proofs.Decimal.{decimal_is, decimal_alone, digits-few}

value_last : (v c : ℕ) (ds : List ℕ) → value_from v (ds ++ (c ∷ [])) ≡ 10 * value_from v ds + (c - 48)
value_last v c [] = refl
value_last v c (d ∷ ds) = value_last (10 * v + (d - 48)) c ds

-- what holds of every digit in front and of the last holds of all
at_last : (P : ℕ → Type 0) (ds : List ℕ) (c : ℕ) → ((i : ℕ) → i < length ds → P (get_or ds i 0)) → P c
    → (i : ℕ) → i < length (ds ++ (c ∷ [])) → P (get_or (ds ++ (c ∷ [])) i 0)
at_last P ds c f p i h =
    ⊎_elim
    (λ e. rw (get_or_at ds c [] 0 i (sym e)) p)
    (λ l. rw (get_or-append ds (c ∷ []) 0 i l) (f i l))
    (eq-or-lt_of_le {n = i} {m = length ds} (omega (arith, length-append ds (c ∷ []))))

-- c is the character of a digit
abbrev IsDigit : ℕ → Type 0
IsDigit c = (48 ≤ c) × (c ≤ 57)

spelt_alone : (n : ℕ) → n < 10 → Spells n ((48 + n) ∷ [])
spelt_alone n h = record {
  reads = omega arith;
  digits = at_last IsDigit [] (48 + n) (λ i l. absurd (not-suc-le-zero l)) (omega arith, omega arith);
  leading = λ ne e. ne (omega arith);
  some = omega arith;
}

spelt_last : (n : ℕ) (ds : List ℕ) → 10 ≤ n → Spells (n / 10) ds → Spells n (ds ++ ((48 + n % 10) ∷ []))
spelt_last n ds h s =
    let last : List ℕ = (48 + n % 10) ∷ [] in
    record {
      reads = value_last 0 (48 + n % 10) ds ∙ rw s.reads (omega arith);
      digits = at_last IsDigit ds (48 + n % 10) s.digits (omega arith, omega arith);
      leading = λ ne. rw (get_or-append ds last 0 0 s.some) (s.leading (λ e. omega arith));
      some = omega (arith, length-append ds last);
    }

pub decimal_holds : Decimal
decimal_holds = record {
  spells = λ n h. rw (decimal_is n h) (decimal_by_steps_wide Spells spelt_alone spelt_last n (omega arith));
  zero = decimal_alone 0 (omega arith);
  few = digits-few 20;
}

-- ---- lines

-- digits are read on into the word begun, and are no line feed
words_digits : (ds rest : List ℕ) (v : ℕ) → ((i : ℕ) → i < length ds → IsDigit (get_or ds i 0)) → words_from v (ds ++ rest) ≡ words_from (value_from v ds) rest
words_digits [] rest v h = refl
words_digits (d ∷ ds) rest v h =
    let l = h 0 (omega arith) in
    rw (ne_eqb d 10 (λ e. omega arith), ne_eqb d 44 (λ e. omega arith)) (words_digits ds rest (10 * v + (d - 48)) (λ i m. h (suc i) (omega arith)))

behind_digits : (ds rest : List ℕ) → ((i : ℕ) → i < length ds → IsDigit (get_or ds i 0)) → behind_line (ds ++ rest) ≡ behind_line rest
behind_digits [] rest h = refl
behind_digits (d ∷ ds) rest h = let l = h 0 (omega arith) in rw (ne_eqb d 10 (λ e. omega arith)) (behind_digits ds rest (λ i m. h (suc i) (omega arith)))

module _ (w mark : ℕ) (rest : List ℕ) (h : w < 10 ^ 20) where
  word_read : words_from 0 (number_text w mark ++ rest) ≡ words_from w (mark ∷ rest)
  unfolding number_text
  word_read =
      let s = decimal_holds.spells w h in
      rw (append_assoc (decimal w) (mark ∷ []) rest) (words_digits (decimal w) (mark ∷ rest) 0 s.digits ∙ rw s.reads)

  behind_word : behind_line (number_text w mark ++ rest) ≡ behind_line (mark ∷ rest)
  unfolding number_text
  behind_word = rw (append_assoc (decimal w) (mark ∷ []) rest) (behind_digits (decimal w) (mark ∷ rest) (decimal_holds.spells w h).digits)

line_reads : (ws rest : List ℕ) → 0 < length ws → Words ws → words_of (line_of ws ++ rest) ≡ ws
unfolding line_of
line_reads [] rest l h = absurd (not-suc-le-zero l)
line_reads (w ∷ []) rest l h = word_read w 10 rest (h 0 (omega arith))
line_reads (w ∷ v ∷ ws) rest l h =
    rw (append_assoc (number_text w 44) (line_of (v ∷ ws)) rest)
    (word_read w 44 _ (h 0 (omega arith)) ∙ ap (λ (vs : List ℕ). w ∷ vs) (line_reads (v ∷ ws) rest (omega arith) (λ i m. h (suc i) (omega arith))))

line_ends : (ws rest : List ℕ) → 0 < length ws → Words ws → behind_line (line_of ws ++ rest) ≡ rest
unfolding line_of
line_ends [] rest l h = absurd (not-suc-le-zero l)
line_ends (w ∷ []) rest l h = behind_word w 10 rest (h 0 (omega arith))
line_ends (w ∷ v ∷ ws) rest l h =
    rw (append_assoc (number_text w 44) (line_of (v ∷ ws)) rest)
    (behind_word w 44 _ (h 0 (omega arith)) ∙ line_ends (v ∷ ws) rest (omega arith) (λ i m. h (suc i) (omega arith)))

pub line_holds : LineLaws
line_holds = record { reads = line_reads; ends = line_ends }
