-- A turn of the loops that take a line apart. Assumes nothing.
use Rattle.std.proofs.Common.{◌≡◌, ℕ, zero, suc, ◌+◌, ◌-◌, ◌*◌, ◌^◌, ◌≤◌, ◌<◌, ◌⊎◌, inl, inr, ap, ◌∙◌, take, List, [], ◌∷◌, ◌++◌, None, Some, length, drop, get_or, refl, add-one, arith, eq-eqb, ne_eqb, lt-ltb, le-ltb, le-leb}
use Rattle.std.proofs.lemmas.Bool.{lt-leb}
use lib.ListN.{drop_of_length-le, length-drop}
use lib.Seq.{drop-cons, take_all, drop-drop}
use Rattle.std.specs.Option.{option_map, option_and_then}
use Rattle.listing.specs.Lines.{hex_value}
use Rattle.calls.specs.declared.Number.{Number}
use Rattle.calls.specs.Parse.{number_up_to, digits_from, plain, spaced_number, numbers_from, packed, parsed}

-- ---- the digits of a number

-- the digits behind the first i of a text that begins at place `at`
module _ (text : List ℕ) (at n i : ℕ) where
  module _ (here : i < length text) where
    pub digits-end : hex_value (get_or text i 0) ≡ None → digits_from n (at + i) (drop i text) ≡ number_up_to n (at + i)
    unfolding digits_from
    digits-end none = rw (drop-cons text i 0 here, none)

    module _ (d : ℕ) (told : hex_value (get_or text i 0) ≡ Some d) where
      pub digits_large : 2 ^ 60 ≤ n → digits_from n (at + i) (drop i text) ≡ None
      unfolding digits_from
      digits_large h = rw (drop-cons text i 0 here, told, le-leb (2 ^ 60) n h)

      pub digits_on : n < 2 ^ 60 → digits_from n (at + i) (drop i text) ≡ digits_from (n * 16 + d) (at + (i + 1)) (drop (i + 1) text)
      unfolding digits_from
      digits_on h =
          let next : at + i + 1 ≡ at + (i + 1) = omega arith in
          rw (drop-cons text i 0 here, told, lt-leb (2 ^ 60) n h, ← next, add-one, add-one)

  pub digits_past : length text ≤ i → digits_from n (at + i) (drop i text) ≡ number_up_to n (at + i)
  unfolding digits_from
  digits_past h = rw (drop_of_length-le text {i = i} h)

-- ---- a number, by the first two characters of a text that begins at place i

module _ (i : ℕ) where
  short_text : (text : List ℕ) → length text < 2 → None ≡ spaced_number i text
  unfolding spaced_number
  short_text [] h = refl
  short_text (s ∷ []) h = refl
  short_text (s ∷ c ∷ text) h = absurd (omega arith)

  spaceless_text : (text : List ℕ) → 2 ≤ length text → (get_or text 0 0 ≡ 32 → ⊥) → None ≡ spaced_number i text
  unfolding spaced_number
  spaceless_text [] h n = absurd (omega arith)
  spaceless_text (s ∷ []) h n = absurd (omega arith)
  spaceless_text (s ∷ c ∷ text) h n = rw (ne_eqb s 32 n)

  spaced_text : (text : List ℕ) → 2 ≤ length text → get_or text 0 0 ≡ 32
      → option_and_then (λ d. option_and_then (plain (get_or text 1 0) i) (digits_from 0 (i + 1) (drop 1 text))) (hex_value (get_or text 1 0)) ≡ spaced_number i text
  unfolding spaced_number
  spaced_text [] h e = absurd (omega arith)
  spaced_text (s ∷ []) h e = absurd (omega arith)
  spaced_text (s ∷ c ∷ text) h e = rw (eq-eqb s 32 e)

module _ (line : List ℕ) (at : ℕ) where
  -- the slice from a place on
  abbrev pub rest : List ℕ
  rest = take (length line - at) (drop at line)

  pub whole : rest ≡ drop at line
  whole = take_all (length line - at) (drop at line) (omega (arith, length-drop at line))

  pub short_none : length rest < 2 → None ≡ spaced_number at (drop at line)
  short_none h = short_text at rest h ∙ ap (spaced_number at) whole

  pub spaceless : 2 ≤ length rest → (get_or rest 0 0 ≡ 32 → ⊥) → None ≡ spaced_number at (drop at line)
  spaceless h n = spaceless_text at rest h n ∙ ap (spaced_number at) whole

  pub spaced : 2 ≤ length rest → get_or rest 0 0 ≡ 32
      → option_and_then (λ d. option_and_then (plain (get_or rest 1 0) at) (digits_from 0 (at + 1) (drop (at + 1) line))) (hex_value (get_or rest 1 0)) ≡ spaced_number at (drop at line)
  spaced h e =
      let behind : drop 1 rest ≡ drop (at + 1) line = ap (drop 1) whole ∙ drop-drop 1 at line in
      (rw behind at (spaced_text at rest h e)) ∙ ap (spaced_number at) whole

module _ (c i : ℕ) (n : Number) where
  pub leading-zero : c ≡ 48 → (n.after ≡ i + 2 → ⊥) → plain c i n ≡ None
  leading-zero e m = rw (eq-eqb c 48 e, ne_eqb _ _ m)

  pub no_leading_zero : ((c ≡ 48) × (n.after ≡ i + 2)) ⊎ (c ≡ 48 → ⊥) → plain c i n ≡ Some n
  no_leading_zero (inl w) = rw (eq-eqb c 48 w.0, eq-eqb _ _ w.1)
  no_leading_zero (inr z) = rw (ne_eqb c 48 z)

-- ---- the numbers of a line

module _ (line values : List ℕ) (at : ℕ) where
  pub numbers-end : (more : ℕ) → length line ≤ at → Some (record { items = values }) ≡ numbers_from more line values at
  unfolding numbers_from
  numbers-end zero h = rw (le-ltb at (length line) h)
  numbers-end (suc more) h = rw (le-ltb at (length line) h)

  module _ (here : at < length line) where
    pub numbers_bad : (more : ℕ) → spaced_number at (drop at line) ≡ None → None ≡ numbers_from more line values at
    unfolding numbers_from
    numbers_bad zero none = rw (lt-ltb at (length line) here)
    numbers_bad (suc more) none = rw (lt-ltb at (length line) here, none)

    pub numbers_full : (more : ℕ) → more ≡ 0 → None ≡ numbers_from more line values at
    unfolding numbers_from
    numbers_full more z = rw (z, lt-ltb at (length line) here)

    pub numbers_on : (more : ℕ) (n : Number) → spaced_number at (drop at line) ≡ Some n
        → numbers_from more line (values ++ n.value ∷ []) n.after ≡ numbers_from (suc more) line values at
    unfolding numbers_from
    numbers_on more n told = rw (lt-ltb at (length line) here, told)

-- ---- the line

pub parsed_empty : (bytes : List ℕ) → length bytes < 1 → record { letter = 0; numbers = None } ≡ parsed bytes
unfolding parsed
parsed_empty [] h = refl
parsed_empty (letter ∷ text) h = absurd (omega arith)

pub parsed_from : (bytes : List ℕ) → 1 ≤ length bytes → record { letter = get_or bytes 0 0; numbers = option_map packed (numbers_from 17 bytes [] 1) } ≡ parsed bytes
unfolding parsed
parsed_from [] h = absurd (omega arith)
parsed_from (letter ∷ text) h = refl
