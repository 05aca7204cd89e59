-- What the functions that fill a line do, column by column. Assumes nothing.
use Rattle.std.specs.Prelude.{ℕ, List, [], ◌∷◌, ◌++◌, length, take, drop, replicate}
use Rattle.lines.specs.Text.{last_digits}
use Rattle.listing.specs.declared.Fields.{Fields}

-- the last digits of v in the n places from `at` on
abbrev pub put_digits : ℕ → ℕ → ℕ → ℕ → List ℕ → List ℕ
put_digits at n base v line = take at line ++ (last_digits base (length (take n (drop at line))) v ++ drop n (drop at line))

-- the fields that every line has, put at their columns
unfoldable pub put_fields : List ℕ → Fields → List ℕ
put_fields line fields =
    put_digits 31 16 16 fields.imm
    (put_digits 26 1 10 fields.funct3
    (put_digits 23 2 10 fields.rs2
    (put_digits 20 2 10 fields.rs1
    (put_digits 17 2 10 fields.rd
    (put_digits 0 8 16 fields.raw line)))))

-- a line before its numbers are put in: a text of seven characters from 9, and a mark at 28
unfoldable pub blank : List ℕ → ℕ → List ℕ
blank seven mark = replicate 9 32 ++ seven ++ replicate 12 32 ++ (mark ∷ []) ++ replicate 18 32 ++ (10 ∷ [])
