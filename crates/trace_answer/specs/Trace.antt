-- What the program `trace` prints for its input (01, "Execute, sameness, program"). An input is the list of its bytes.
-- Assumes nothing: these are definitions.
use Rattle.std.specs.Prelude.{ℕ, zero, suc, ◌+◌, ◌-◌, ◌*◌, ◌/◌, ◌%◌, ◌^◌, Bool, cond, not, ◌||◌, List, [], ◌∷◌, eqb, ltb, length, get_or, replicate, Result, Ok, Err}
use Rattle.expand.specs.Expand.{expansion_of}
use Rattle.interp.specs.declared.Execution.{Execution}
use Rattle.interp.specs.Execute.{Executed, execute_of}
use Rattle.lines.specs.Lines.{answer_text, refused_text}

-- ---- the parts of an input

-- word i, a little-endian u32
unfoldable pub word_at : List ℕ → ℕ → ℕ
word_at bytes i = get_or bytes (4 * i) 0 + 0x100 * get_or bytes (4 * i + 1) 0 + 0x10000 * get_or bytes (4 * i + 2) 0 + 0x1000000 * get_or bytes (4 * i + 3) 0

-- n words from word i on
unfoldable pub words_from : ℕ → ℕ → List ℕ → List ℕ
words_from zero i bytes = []
words_from (suc n) i bytes = word_at bytes i ∷ words_from n (i + 1) bytes

-- n input words from word i on, each of two words, low half first
unfoldable pub inputs_from : ℕ → ℕ → List ℕ → List ℕ
inputs_from zero i bytes = []
inputs_from (suc n) i bytes = (word_at bytes i + 2 ^ 32 * word_at bytes (i + 1)) ∷ inputs_from n (i + 2) bytes

-- the input words that every two words are, low half first; one more word is none
unfoldable pub pairs_of : List ℕ → List ℕ
pairs_of [] = []
pairs_of (low ∷ []) = []
pairs_of (low ∷ high ∷ ws) = (low + 2 ^ 32 * high) ∷ pairs_of ws

-- max_cycles
abbrev pub max_cycles : List ℕ → ℕ
max_cycles bytes = word_at bytes 0

-- k, how many input words there are
abbrev pub input_count : List ℕ → ℕ
input_count bytes = word_at bytes 1

-- the input isn't a multiple of 4 bytes, is under 8 or over 4,096, ends inside the k words, or has max_cycles over 256
unfoldable pub malformed : List ℕ → Bool
malformed bytes =
    not (eqb (length bytes % 4) 0)
    || ltb (length bytes) 8
    || ltb 4096 (length bytes)
    || ltb (length bytes) (8 + 8 * input_count bytes)
    || ltb 256 (max_cycles bytes)

-- the k input words
abbrev pub input_of : List ℕ → List ℕ
input_of bytes = inputs_from (input_count bytes) 2 bytes

-- the program: the words that are left
abbrev pub program_of : List ℕ → List ℕ
program_of bytes = words_from (length bytes / 4 - (2 + 2 * input_count bytes)) (2 + 2 * input_count bytes) bytes

-- ---- the text

-- execute, with room for 256 records
abbrev pub run_of : List ℕ → List ℕ → ℕ → Executed
run_of rows input max = execute_of rows input max (replicate 4352 0)

-- the text of what comes of a run: its answer, or the number of the refusal
abbrev pub text_of : Result Execution ℕ → List ℕ → List ℕ
text_of (Ok done) records = answer_text done.live_count done.record_count done.cursor.output records
text_of (Err number) records = refused_text number

-- what runs: the program's expansion; a program with no words has no rows, which is refusal 1
abbrev pub ran_of : List ℕ → Executed
ran_of bytes = run_of (expansion_of (program_of bytes)) (input_of bytes) (max_cycles bytes)

-- an accepted execution tells its answer, a refused one its number
unfoldable pub told_of : Executed → List ℕ
told_of e = cond (eqb e.number 0) (answer_text e.live_count e.record_count e.cursor.output e.buffer) (refused_text e.number)

-- what the program prints
unfoldable pub trace_of : List ℕ → List ℕ
trace_of bytes = cond (malformed bytes) (refused_text 0) (told_of (ran_of bytes))
