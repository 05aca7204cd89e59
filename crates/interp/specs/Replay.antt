-- The replay of a log: it is fed the input, the rows and the log's words, and knows nothing of the machine (01, "Joined log
-- and replay"). Assumes nothing: these are definitions.
use Rattle.std.specs.Prelude.{ℕ, ◌/◌, ◌%◌, Bool, true, cond, ◌&&◌, List, [], ◌∷◌, length, replicate, ◌==◌, nat_lt, slice_index, slice_set}
use Rattle.std.specs.Simd.{first_chunks}
use Rattle.interp.specs.Machine.{row_at, loaded}

-- the replay's state, and whether every "must" so far held
pub record Replay : Type 0 where
  pub agrees : Bool
  pub row : ℕ
  pub regs : List ℕ
  pub ram : List ℕ

-- before the first record
unfoldable pub fresh : List ℕ → Replay
fresh input = record { agrees = true; row = 0; regs = replicate 64 0; ram = loaded input }

-- word i of a record
abbrev pub word : List ℕ → ℕ → ℕ
word r i = slice_index r i

-- whether is_store is set: bit 7 of the flags, which begin at bit 16 of word 16
unfoldable pub stored : List ℕ → Bool
stored r = word r 16 / 0x80_0000 % 2 == 1

-- if x is 1 to 31, the word shown must equal that register
unfoldable pub reads : List ℕ → ℕ → ℕ → Bool
reads regs x shown = cond (nat_lt 0 x && nat_lt x 32) (shown == slice_index regs x) true

-- every test of a list passes
abbrev pub all : List Bool → Bool
all [] = true
all (b ∷ bs) = b && all bs

-- what a record must, at the replay's state
unfoldable pub musts : List ℕ → Replay → List ℕ → List Bool
musts rows s r =
    (word r 0 == s.row)
    ∷ nat_lt (word r 0) (length rows)
    ∷ nat_lt (word r 5) 64
    ∷ nat_lt (word r 6) 256
    ∷ reads s.regs (row_at rows (word r 0)).rs1 (word r 1)
    ∷ reads s.regs (row_at rows (word r 0)).rs2 (word r 2)
    ∷ (word r 7 == slice_index s.ram (word r 6))
    ∷ []

-- then word 3 goes into register word 5, word 9 into RAM word 6 if is_store is set, and the row becomes word 11
unfoldable pub fed : List ℕ → Replay → List ℕ → Replay
fed rows s r =
    record {
      agrees = s.agrees && all (musts rows s r);
      row = word r 11;
      regs = slice_set s.regs (word r 5) (word r 3);
      ram = cond (stored r) (slice_set s.ram (word r 6) (word r 9)) s.ram;
    }

-- records, in order
unfoldable pub feed : List ℕ → Replay → List (List ℕ) → Replay
feed rows s [] = s
feed rows s (r ∷ rs) = feed rows (fed rows s r) rs

-- the records of a log: its chunks of 17 words
unfoldable pub records_in : List ℕ → List (List ℕ)
records_in ws = first_chunks 17 (length ws / 17) ws

-- the replay of a whole log
unfoldable pub replay : List ℕ → List ℕ → List ℕ → Replay
replay rows input ws = feed rows (fresh input) (records_in ws)
