-- What an answer of a read means, and how much of a buffer it fills. Assumes nothing: these are definitions.
use Rattle.std.specs.Prelude.{ℕ, ◌≡◌, ◌≤◌, min, ◌⊎◌, List, [], ◌∷◌, length, take, Result, Ok, Err}
use Rattle.std.specs.declared.io.Error.{Error}
use Rattle.input.specs.declared.Broken.{Broken}

-- the bytes that came: all of an answer, or those before a read that failed
abbrev pub count_of : Result ℕ Broken → ℕ
count_of (Ok n) = n
count_of (Err broken) = broken.count

-- of a buffer of n bytes: an error is a failure; anything else is a count, taken as n where it is larger
abbrev pub outcome_of : Result ℕ Error → ℕ → Result ℕ Broken
outcome_of (Ok k) n = Ok (min k n)
outcome_of (Err why) n = Err (record { count = 0; why = why })

-- `&xs[..n]` is in bounds and has n bytes. The second part follows from the first, and spares a caller's `&buf[..n]` a proof file.
abbrev pub IsPrefixLen : ℕ → List ℕ → Type 0
IsPrefixLen n xs = (n ≤ length xs) × (n ≡ length (take n xs))

-- the word `argument`
abbrev pub argument_word : List ℕ
argument_word = 97 ∷ 114 ∷ 103 ∷ 117 ∷ 109 ∷ 101 ∷ 110 ∷ 116 ∷ []

-- what is told of a failure is no longer than a name's place, or is that word
abbrev pub IsTold : ℕ → List ℕ → Type 0
IsTold room what = (length what ≤ room) ⊎ (what ≡ argument_word)
