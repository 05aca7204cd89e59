-- What makes `decimal` the decimal digits of a number, and `line_of` a line of its words. The functions `decimal_laws` and
-- `line_laws` of src/lib.rt have the wholes for their contracts. Assumes nothing: these are definitions.
use Rattle.std.specs.Prelude.{ℕ, ◌+◌, ◌-◌, ◌*◌, ◌^◌, ◌≤◌, ◌<◌, ◌≡◌, ◌≢◌, cond, List, [], ◌∷◌, ◌++◌, length, ◌==◌, get_or, slice_index}
use Rattle.lines.specs.Text.{decimal}
use Rattle.lines.specs.Lines.{line_of}

-- ---- decimal digits

-- the number v and then the digits, read as one number
abbrev pub value_from : ℕ → List ℕ → ℕ
value_from v [] = v
value_from v (c ∷ cs) = value_from (10 * v + (c - 48)) cs

-- the number that the digits give
abbrev pub value_of : List ℕ → ℕ
value_of cs = value_from 0 cs

-- ds is n in decimal: one digit or more, `0` to `9` (48 to 57), that read back as n, and no `0` in front unless n is 0
pub record Spells (n : ℕ) (ds : List ℕ) : Type 0 where
  pub reads : value_of ds ≡ n
  pub digits : (i : ℕ) → i < length ds → (48 ≤ get_or ds i 0) × (get_or ds i 0 ≤ 57)
  pub leading : n ≢ 0 → get_or ds 0 0 ≢ 48
  pub some : 0 < length ds

-- for every number below 10 ^ 20, which is more than a u64 holds; 0 is one digit, and no number has more than 20
pub record Decimal : Type 0 where
  pub spells : (n : ℕ) → n < 10 ^ 20 → Spells n (decimal n)
  pub zero : decimal 0 ≡ 48 ∷ []
  pub few : (n : ℕ) → length (decimal n) ≤ 20

-- ---- lines

-- the words of a line, read up to its line feed (10), a comma (44) between them: v is the word begun
abbrev pub words_from : ℕ → List ℕ → List ℕ
words_from v [] = []
words_from v (c ∷ cs) = cond (c == 10) (v ∷ []) (cond (c == 44) (v ∷ words_from 0 cs) (words_from (10 * v + (c - 48)) cs))

-- the words of the first line of a text
abbrev pub words_of : List ℕ → List ℕ
words_of text = words_from 0 text

-- what stands behind the first line feed
abbrev pub behind_line : List ℕ → List ℕ
behind_line [] = []
behind_line (c ∷ cs) = cond (c == 10) cs (behind_line cs)

-- each word is a number of at most 20 digits
abbrev pub Words : List ℕ → Type 0
Words ws = (i : ℕ) → i < length ws → slice_index ws i < 10 ^ 20

-- a line of one word or more reads back as its words, whatever stands behind it, and its one line feed is its end
pub record LineLaws : Type 0 where
  pub reads : (ws rest : List ℕ) → 0 < length ws → Words ws → words_of (line_of ws ++ rest) ≡ ws
  pub ends : (ws rest : List ℕ) → 0 < length ws → Words ws → behind_line (line_of ws ++ rest) ≡ rest
