-- What is claimed of the index beyond its text (02, T-02). `log`, `last`, `total` and `added` are of interp's Calls, `start_of` of
-- its Machine. The function `index_laws` of src/lib.rt has the whole for its contract. Assumes nothing: these are definitions.
use Rattle.std.specs.Prelude.{◌≡◌, ℕ, ◌+◌, ◌^◌, ◌<◌, ◌≤◌, Bool, true, false, cond, ◌&&◌, ◌≢◌, List, [], ◌∷◌, ◌++◌, length, ◌==◌, slice_index, slice_index_or}
use Rattle.interp.specs.declared.Cursor.{Cursor}
use Rattle.interp.specs.Machine.{start_of}
use Rattle.interp.specs.Calls.{Call, answer_of, added, log, last, total}
use Rattle.interp.specs.Replay.{word, stored, records_in}
use Rattle.log_records.specs.Records.{count}
use Rattle.last_writer.specs.Index.{places, ram_place, none, writes, Indexed, built_of, added_of}

-- ---- the latest

-- no record writes place x
abbrev pub Unwritten : List (List ℕ) → ℕ → Type 0
Unwritten rs x = (j : ℕ) → j < length rs → writes (slice_index_or rs j []) x ≡ false

-- record i writes place x, and no later one does
pub record LastWriter (rs : List (List ℕ)) (x i : ℕ) : Type 0 where
  pub inside : i < length rs
  pub here : writes (slice_index_or rs i []) x ≡ true
  pub later : (j : ℕ) → i < j → j < length rs → writes (slice_index_or rs j []) x ≡ false

-- place x holds v: a position exactly if that record is the latest to write x, and 2^64 − 1 exactly if none does
pub record Says (rs : List (List ℕ)) (x v : ℕ) : Type 0 where
  pub only : v ≢ none → LastWriter rs x v
  pub if : (i : ℕ) → LastWriter rs x i → v ≡ i
  pub none_only : v ≡ none → Unwritten rs x
  pub none_if : Unwritten rs x → v ≡ none

-- ---- adding

-- a call has the number of another, and if it is accepted its index
pub record SameAnswer (a b : Indexed) : Type 0 where
  pub number : a.number ≡ b.number
  pub index : a.number ≡ 0 → a.index ≡ b.index

-- the buffer after segments are added one after the other, with so many records before the first
unfoldable pub added_all : ℕ → List (List ℕ) → List ℕ → List ℕ
added_all before [] buffer = buffer
added_all before (s ∷ ss) buffer = added_all (before + count s) ss (added_of s before buffer).index

-- each of them is accepted
unfoldable pub all_accepted : ℕ → List (List ℕ) → List ℕ → Bool
all_accepted before [] buffer = true
all_accepted before (s ∷ ss) buffer =
    ((added_of s before buffer).number == 0) && all_accepted (before + count s) ss (added_of s before buffer).index

-- ---- the cursor that the indexed writes rebuild

-- the logs of the accepted calls of a list, in order
unfoldable pub logs : List ℕ → Cursor → List Call → List (List ℕ)
logs rows c [] = []
logs rows c (k ∷ ks) =
    let answer = answer_of rows c k in
    let rest = logs rows answer.cursor ks in
    cond (answer.number == 0) (added k answer ∷ rest) rest

-- register x: 0 where no record wrote it, else word 3 of the record at the index's position
unfoldable pub register_from : List (List ℕ) → List ℕ → ℕ → ℕ
register_from rs index x = cond (slice_index index x == none) 0 (word (slice_index_or rs (slice_index index x) []) 3)

-- RAM word x: word 9 of the record at the index's position
unfoldable pub ram_from : List (List ℕ) → List ℕ → ℕ → ℕ
ram_from rs index x = word (slice_index_or rs (slice_index index (ram_place x)) []) 9

-- an index over a list of calls from a fresh cursor rebuilds the last one's registers 1 to 63 and every RAM word ever stored to
pub record Rebuilds (rows input : List ℕ) (calls : List Call) (rs : List (List ℕ)) (index : List ℕ) : Type 0 where
  pub registers : (x : ℕ) → 0 < x → x < 64 → slice_index (last rows (start_of input) calls).regs x ≡ register_from rs index x
  pub ram : (j : ℕ) → j < length rs → stored (slice_index_or rs j []) ≡ true
      → slice_index (last rows (start_of input) calls).ram (word (slice_index_or rs j []) 6) ≡ ram_from rs index (word (slice_index_or rs j []) 6)

-- building from the joined log, and adding the accepted calls' logs one after the other to the index of no record
pub record OverCalls (rows input : List ℕ) (calls : List Call) (buffer : List ℕ) : Type 0 where
  pub accepted : (built_of (log rows (start_of input) calls) buffer).number ≡ 0
  pub built : Rebuilds rows input calls (records_in (log rows (start_of input) calls)) (built_of (log rows (start_of input) calls) buffer).index
  pub all_accepted : all_accepted 0 (logs rows (start_of input) calls) (built_of [] buffer).index ≡ true
  pub joined : added_all 0 (logs rows (start_of input) calls) (built_of [] buffer).index ≡ (built_of (log rows (start_of input) calls) buffer).index

-- ---- the whole

-- the contract of `index_laws`
pub record IndexLaws : Type 0 where
  -- a built index says the latest writer of each place
  pub latest : (log buffer : List ℕ) → (built_of log buffer).number ≡ 0 → (x : ℕ) → x < places
      → Says (records_in log) x (slice_index (built_of log buffer).index x)
  -- adding a segment to the index of a log yields the index of the joined log
  pub built_on : (a b buffer : List ℕ) → (built_of a buffer).number ≡ 0
      → SameAnswer (added_of b (count a) (built_of a buffer).index) (built_of (a ++ b) buffer)
  -- and adding two segments is adding them joined
  pub added_on : (a b : List ℕ) (before : ℕ) (buffer : List ℕ) → (added_of a before buffer).number ≡ 0
      → SameAnswer (added_of b (before + count a) (added_of a before buffer).index) (added_of (a ++ b) before buffer)
  -- a place that the segment writes holds the position of the latest record of it that does
  pub written : (log : List ℕ) (before : ℕ) (buffer : List ℕ) → (added_of log before buffer).number ≡ 0 → (x i : ℕ) → x < places
      → LastWriter (records_in log) x i → slice_index (added_of log before buffer).index x ≡ before + i
  -- a place that it never writes stays as lent
  pub unwritten : (log : List ℕ) (before : ℕ) (buffer : List ℕ) (x : ℕ) → Unwritten (records_in log) x
      → slice_index (added_of log before buffer).index x ≡ slice_index buffer x
  -- the joined log of any list of segment and padding calls from a fresh cursor, refused ones included, of at most 2^62 records
  pub calls : (rows input : List ℕ) (calls : List Call) (buffer : List ℕ) → total rows (start_of input) calls ≤ 2 ^ 62 → places ≤ length buffer
      → OverCalls rows input calls buffer
