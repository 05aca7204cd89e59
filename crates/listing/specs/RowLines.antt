-- The line of a ROM row, the line in front of the rows of a program, and what is read of both. Assumes nothing.
use Rattle.std.specs.Prelude.{ℕ, cond, ◌&&◌, List, [], ◌∷◌, ◌++◌, ◌==◌, slice_index, slice_range, Option, None, Some, Result, Ok, Err}
use Rattle.expand.specs.Rows.{row_of}
use Rattle.expand.specs.declared.RomRow.{RomRow}
use Rattle.expand.specs.declared.VirtualKind.{VirtualKind}
use Rattle.expand.specs.declared.VirtualKind.TheVariants as kind
use Rattle.lines.specs.Text.{codes, last_digits}
use Rattle.listing.specs.Lines.{columns, number_from, parsed_word, compare_of}
use Rattle.listing.specs.declared.rows.Head.{Head}
use Rattle.listing.specs.declared.rows.Head.TheVariants.{First, Later, NoLine}
use Rattle.listing.specs.declared.rows.Sizes.{Sizes}

-- ---- the line of a row

-- the name of a kind, in seven characters; that of a stage ends in its last decimal digit
unfoldable pub kind_name : VirtualKind → List ℕ
kind_name kind.Alu = codes "Alu    "
kind_name (kind.ShiftStage stage) = codes "Shift " ++ last_digits 10 1 stage
kind_name kind.Load = codes "Load   "
kind_name kind.Store = codes "Store  "
kind_name kind.Branch = codes "Branch "
kind_name kind.Upper = codes "Upper  "
kind_name kind.Jump = codes "Jump   "
kind_name kind.System = codes "System "

-- the line of a row, with its kind, and a `+` (43) and its distance from the first row of its instruction
abbrev pub line_of_row : RomRow → ℕ → List ℕ
line_of_row r distance =
    columns (kind_name r.kind) (43 ∷ last_digits 10 1 distance) r.raw r.rd r.rs1 r.rs2 r.funct3 r.imm

-- the line of a row word
abbrev pub row_line_of : ℕ → ℕ → List ℕ
row_line_of word distance = line_of_row (row_of word) distance

-- ---- what a row line says of its instruction

-- the word of the instruction in its first row, which has `+` (43) and `0` (48) from 28 on
abbrev pub of_word : List ℕ → Option ℕ → Head
of_word line (Some raw) = cond (slice_index line 28 == 43 && slice_index line 29 == 48) (First raw) Later
of_word line None = NoLine

-- no row line without a word in front and a line feed at its end
abbrev pub head_of : List ℕ → Head
head_of line = of_word line (parsed_word line)

-- ---- the line in front of the rows of a program

-- its characters, with a '.' for each digit of the counts
abbrev pub program_shape : List ℕ
program_shape = codes "program: .... words, .... rows                 " ++ (10 ∷ [])

-- the counts of words and of rows
abbrev pub of_counts : Option ℕ → Option ℕ → Option Sizes
of_counts (Some words) (Some rows) = Some (record { words = words; rows = rows })
of_counts (Some words) None = None
of_counts None rows = None

-- the counts of a line, by its comparison with the shape: four decimal digits each
abbrev pub of_shape : List ℕ → Result ℕ ℕ → Option Sizes
of_shape line (Ok n) = of_counts (number_from 10 0 (slice_range line 9 13)) (number_from 10 0 (slice_range line 21 25))
of_shape line (Err at) = None

-- the counts of a line of that shape
abbrev pub program_counts : List ℕ → Option Sizes
program_counts line = of_shape line (compare_of program_shape line)
