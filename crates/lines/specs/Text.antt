-- Texts as the codes of their characters, and numbers as digits. Assumes nothing: these are definitions.
use Rattle.std.specs.Prelude.{ℕ, zero, suc, ◌+◌, ◌/◌, ◌%◌, cond, List, [], ◌∷◌, ◌++◌, nat_lt}
use Prim.Native.Char.{code}
use Prim.Native.String.{String, [] as end, ◌∷◌ as ◌then◌}

-- the codes of a string's characters
abbrev pub codes : String → List ℕ
codes end = []
codes (c then s) = code c ∷ codes s

-- the character of a digit below 16: `0` to `9`, then `a` to `f`
abbrev pub digit : ℕ → ℕ
digit d = cond (nat_lt d 10) (48 + d) (87 + d)

-- the last n digits of v in the base, the highest first
unfoldable pub last_digits : ℕ → ℕ → ℕ → List ℕ
last_digits base zero v = []
last_digits base (suc n) v = last_digits base n (v / base) ++ (digit (v % base) ∷ [])

-- the decimal digits of n, the highest first and at most k of them
unfoldable pub digits : ℕ → ℕ → List ℕ
digits zero n = []
digits (suc k) n = cond (nat_lt n 10) ((48 + n) ∷ []) (digits k (n / 10) ++ ((48 + n % 10) ∷ []))

-- the decimal digits of a number below 10 ^ 20, so of every u64
abbrev pub decimal : ℕ → List ℕ
decimal n = digits 20 n
