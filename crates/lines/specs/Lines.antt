-- Lines of numbers, and the text of a recorder's answer (01, "Execute, sameness, program"), as the codes of their characters.
-- Assumes nothing: these are definitions.
use Rattle.std.specs.Prelude.{ℕ, zero, suc, cond, List, [], ◌∷◌, ◌++◌, length, take, drop, nat_le, Option, None, Some}
use Rattle.lines.specs.Text.{codes, decimal}

-- the decimal digits of a number, and the character behind them
unfoldable pub number_text : ℕ → ℕ → List ℕ
number_text n mark = decimal n ++ (mark ∷ [])

-- a line: a comma (44) between the words, a line feed (10) at the end; of no words, nothing
unfoldable pub line_of : List ℕ → List ℕ
line_of [] = []
line_of (w ∷ []) = number_text w 10
line_of (w ∷ v ∷ ws) = number_text w 44 ++ line_of (v ∷ ws)

-- so many records, a line of 17 words for each
unfoldable pub lines_of : ℕ → List ℕ → List ℕ
lines_of zero ws = []
lines_of (suc n) ws = line_of (take 17 ws) ++ lines_of n (drop 17 ws)

-- an answer: the line live,records,output, and then the records
unfoldable pub answer_text : ℕ → ℕ → ℕ → List ℕ → List ℕ
answer_text live records output words = line_of (live ∷ records ∷ output ∷ []) ++ lines_of records words

-- a refusal: the line refused,number
unfoldable pub refused_text : ℕ → List ℕ
refused_text number = codes "refused," ++ number_text number 10

-- the text stands first in the buffer, and the rest is as before
abbrev pub written : List ℕ → List ℕ → List ℕ
written text out = text ++ drop (length text) out

-- ---- a text that is put where there is room for it

-- its length, or none where the buffer is too short
abbrev pub fit_of : List ℕ → List ℕ → Option ℕ
fit_of text out = cond (nat_le (length text) (length out)) (Some (length text)) None

-- the buffer behind it, which a text too long leaves as it was
abbrev pub fitted : List ℕ → List ℕ → List ℕ
fitted text out = cond (nat_le (length text) (length out)) (written text out) out
