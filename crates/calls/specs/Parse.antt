-- The line that some bytes are. Assumes nothing: these are definitions.
use Rattle.std.specs.Prelude.{ℕ, zero, suc, ◌+◌, ◌-◌, ◌*◌, ◌^◌, Bool, not, cond, ◌&&◌, List, [], ◌∷◌, ◌++◌, length, take, drop, get_or, replicate, eqb, ltb, leb, Option, None, Some}
use Rattle.std.specs.Option.{option_map, option_and_then, option_map_or}
use Rattle.arrayvec.specs.ArrayVec.{ArrayVec}
use Rattle.listing.specs.Lines.{hex_value}
use Rattle.calls.specs.declared.Line.{Line}
use Rattle.calls.specs.declared.Numbers.{Numbers}
use Rattle.calls.specs.declared.Number.{Number}

-- ---- a number

-- a number, and the place behind it
abbrev pub number_up_to : ℕ → ℕ → Option Number
number_up_to value after = Some (record { value = value; after = after })

-- n with the digits in front of a text that begins at place i; none where 64 bits do not hold it
unfoldable pub digits_from : ℕ → ℕ → List ℕ → Option Number
digits_from n i [] = number_up_to n i
digits_from n i (c ∷ text) =
    option_map_or (λ d. cond (leb (2 ^ 60) n) None (digits_from (n * 16 + d) (i + 1) text)) (hex_value c) (number_up_to n i)

-- a number behind the space at place i that begins with the character d: only 0 begins with 0 (48)
abbrev pub plain : ℕ → ℕ → Number → Option Number
plain d i n = cond (eqb d 48 && not (eqb n.after (i + 2))) None (Some n)

-- the number behind a space (32), of a text that begins at place i
unfoldable pub spaced_number : ℕ → List ℕ → Option Number
spaced_number i [] = None
spaced_number i (s ∷ []) = None
spaced_number i (s ∷ c ∷ text) =
    cond (eqb s 32)
    (option_and_then (λ d. option_and_then (plain c i) (digits_from 0 (i + 1) (c ∷ text))) (hex_value c))
    None

-- ---- a line

-- the numbers of a line that goes on at place `at` behind the first ones, where so many more may come
unfoldable pub numbers_from : ℕ → List ℕ → List ℕ → ℕ → Option (ArrayVec ℕ)
numbers_from zero bytes values at = cond (ltb at (length bytes)) None (Some (record { items = values }))
numbers_from (suc more) bytes values at =
    cond (ltb at (length bytes))
    (option_and_then (λ (n : Number). numbers_from more bytes (values ++ n.value ∷ []) n.after) (spaced_number at (drop at bytes)))
    (Some (record { items = values }))

-- the numbers in the first places
abbrev pub items_of : Numbers → List ℕ
items_of n = take n.count n.places

-- numbers in the first of 17 places, and 0 in the others
abbrev pub packed : ArrayVec ℕ → Numbers
packed n = record { count = length n.items; places = n.items ++ replicate (17 - length n.items) 0 }

-- the line that bytes are: a letter, then up to 17 numbers; none, where they have another form
unfoldable pub parsed : List ℕ → Line
parsed [] = record { letter = 0; numbers = None }
parsed (letter ∷ rest) = record { letter = letter; numbers = option_map packed (numbers_from 17 (letter ∷ rest) [] 1) }

-- ---- what a line says

-- the numbers of a line that has its form
abbrev pub values_of : Line → Option (List ℕ)
values_of line = option_map items_of line.numbers

-- how many numbers there are; a line of another form counts as one of 18
abbrev pub count_of : Line → ℕ
count_of line = option_map_or length (values_of line) 18

-- the first number; 0, where there is none
abbrev pub first_number : Line → ℕ
first_number line = option_map_or (λ values. get_or values 0 0) (values_of line) 0

-- the line has this letter and so many numbers
abbrev pub is_line : Line → ℕ → ℕ → Bool
is_line line letter count = eqb line.letter letter && eqb (count_of line) count

-- the place of register cell i, or of RAM word i, which stands behind the 64 registers
abbrev pub cell_place : Bool → Bool → ℕ → Option ℕ
cell_place is_register is_word i = cond (is_register && ltb i 64) (Some i) (cond (is_word && ltb i 256) (Some (i + 64)) None)

-- the place of the cell that a line of so many numbers names first
abbrev pub place_of : Line → ℕ → ℕ → ℕ → Option ℕ
place_of line register word count =
    cell_place (is_line line register count) (is_line line word count) (first_number line)
