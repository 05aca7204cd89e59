-- A listing line, and what a line with a stored answer comes to. Assumes nothing.
use Rattle.std.specs.Prelude.{ℕ, zero, suc, ◌+◌, ◌-◌, ◌*◌, ◌^◌, Bool, cond, ◌||◌, List, [], ◌∷◌, ◌++◌, ◌==◌, nat_le, nat_lt, slice_index, slice_range, Option, None, Some, Result, Ok, Err}
use Rattle.std.specs.Option.{option_and_then}
use Rattle.decode.specs.Decode.{decode_of}
use Rattle.decode.specs.declared.Inst.{Inst}
use Rattle.decode.specs.declared.Opcode.{Opcode}
use Rattle.decode.specs.declared.Opcode.TheVariants.{Lui, Auipc, Jal, Jalr, Branch, Load, Store, OpImm, Op, OpImm32, Op32, Fence, Ecall, Ebreak, Invalid}
use Rattle.lines.specs.Text.{codes, last_digits}
use Rattle.listing.specs.declared.Wrong.{Wrong}
use Rattle.listing.specs.declared.Wrong.TheVariants.{NoLine, Differs}

-- ---- the line of a word

-- the name of a class, in seven characters
unfoldable pub name_of : Opcode → List ℕ
name_of Lui = codes "Lui    "
name_of Auipc = codes "Auipc  "
name_of Jal = codes "Jal    "
name_of Jalr = codes "Jalr   "
name_of Branch = codes "Branch "
name_of Load = codes "Load   "
name_of Store = codes "Store  "
name_of OpImm = codes "OpImm  "
name_of Op = codes "Op     "
name_of OpImm32 = codes "OpImm32"
name_of Op32 = codes "Op32   "
name_of Fence = codes "Fence  "
name_of Ecall = codes "Ecall  "
name_of Ebreak = codes "Ebreak "
name_of Invalid = codes "Invalid"

-- the columns of a line, a space (32) between: raw in hex, a text of seven characters, three registers and funct3 in
-- decimal, a text of two characters, the immediate in hex; and a line feed (10)
unfoldable pub columns : List ℕ → List ℕ → ℕ → ℕ → ℕ → ℕ → ℕ → ℕ → List ℕ
columns seven two raw rd rs1 rs2 funct3 imm =
    last_digits 16 8 raw
    ++ (32 ∷ seven)
    ++ (32 ∷ last_digits 10 2 rd)
    ++ (32 ∷ last_digits 10 2 rs1)
    ++ (32 ∷ last_digits 10 2 rs2)
    ++ (32 ∷ last_digits 10 1 funct3)
    ++ (32 ∷ two)
    ++ (32 ∷ last_digits 16 16 imm)
    ++ (10 ∷ [])

-- the line of a decoded word, with its class and funct7 in hex
abbrev pub line_of_inst : Inst → List ℕ
line_of_inst d =
    columns (name_of d.opcode) (last_digits 16 2 d.funct7) d.raw d.rd d.rs1 d.rs2 d.funct3 d.imm

-- the line of a word
abbrev pub word_line_of : ℕ → List ℕ
word_line_of raw = line_of_inst (decode_of raw)

-- ---- the numbers of a line

-- the value of a lower-case hex digit's character; none for any other
unfoldable pub hex_value : ℕ → Option ℕ
hex_value c = cond (nat_lt c 48) None (cond (nat_le c 57) (Some (c - 48)) (cond (nat_lt c 97) None (cond (nat_le c 102) (Some (c - 87)) None)))

-- n and then some digits, as one number; none where one is no digit of the base
unfoldable pub number_from : ℕ → ℕ → List ℕ → Option ℕ
number_from base n [] = Some n
number_from base n (c ∷ digits) =
    option_and_then (λ d. cond (nat_lt d base) (number_from base (n * base + d) digits) None) (hex_value c)

-- the word that the first eight characters give, of a line with a line feed at its end
abbrev pub parsed_word : List ℕ → Option ℕ
parsed_word line = cond (slice_index line 47 == 10) (number_from 16 0 (slice_range line 0 8)) None

-- the word of four bytes, the lowest first
abbrev pub word_le : ℕ → ℕ → ℕ → ℕ → ℕ
word_le a b c d = a + b * 2 ^ 8 + c * 2 ^ 16 + d * 2 ^ 24

-- ---- two lines

-- a '.' (46) stands for any character
abbrev pub agrees : ℕ → ℕ → Bool
agrees stored made = stored == 46 || stored == made

-- the first of the next `left` places that differs, as an error; else n and how many are compared: each but a '.'
unfoldable pub compare_from : ℕ → ℕ → ℕ → List ℕ → List ℕ → Result ℕ ℕ
compare_from zero at n stored made = Ok n
compare_from (suc left) at n stored made =
    cond (agrees (slice_index stored at) (slice_index made at))
    (compare_from left (at + 1) (n + cond (slice_index stored at == 46) 0 1) stored made)
    (Err at)

-- a stored line against a made one, in all 48 places
abbrev pub compare_of : List ℕ → List ℕ → Result ℕ ℕ
compare_of stored made = compare_from 48 0 0 stored made

-- ---- a line with a stored answer

-- the judgement of a line that begins with the word raw, by its comparison
abbrev pub of_compared : ℕ → Result ℕ ℕ → Result ℕ Wrong
of_compared raw (Ok n) = Ok n
of_compared raw (Err at) = Err (Differs at raw)

-- the judgement of a line, by what it begins with
abbrev pub of_parsed : List ℕ → Option ℕ → Result ℕ Wrong
of_parsed line (Some raw) = of_compared raw (compare_of line (word_line_of raw))
of_parsed line None = Err NoLine

-- no line without a word in front and a line feed at its end; else the line against that of its word
abbrev pub judge_of : List ℕ → Result ℕ Wrong
judge_of line = of_parsed line (parsed_word line)
