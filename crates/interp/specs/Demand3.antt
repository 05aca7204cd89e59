-- Demand 3, as claims over lists of calls (01, "Joined log and replay"). `start_of` is of Machine; `log`, `last`, `total` and
-- `segments` are of Calls, over the answers that the calls' contracts give; `replay` is of Replay. The function `demand_3` of
-- src/calls.rt has the whole for its contract. Assumes nothing: these are definitions.
use Rattle.std.specs.Prelude.{◌≡◌, ℕ, ◌*◌, ◌<◌, ◌≤◌, true, ◌≢◌, List, [], length, take, drop, slice_index, slice_index_or}
use Rattle.interp.specs.declared.Cursor.{Cursor}
use Rattle.interp.specs.Machine.{row_at, loaded, start_of}
use Rattle.interp.specs.Calls.{Call, answer_of, counted, added, log, last, total, segments}
use Rattle.interp.specs.Replay.{replay, records_in, word, stored}

-- ---- the replay

-- the joined log has 17 words a cycle and passes the replay; the replay's registers 1 to 63 and RAM are the last cursor's
pub record Replays (rows input : List ℕ) (calls : List Call) : Type 0 where
  pub sized : length (log rows (start_of input) calls) ≡ 17 * total rows (start_of input) calls
  pub agrees : (replay rows input (log rows (start_of input) calls)).agrees ≡ true
  pub registers : drop 1 (replay rows input (log rows (start_of input) calls)).regs ≡ drop 1 (last rows (start_of input) calls).regs
  pub ram : (replay rows input (log rows (start_of input) calls)).ram ≡ (last rows (start_of input) calls).ram

-- ---- prefixes

-- the log of the smaller accepted total is the beginning of the other's; equal totals give equal logs and last cursors
pub record Prefixes (rows input : List ℕ) (xs ys : List Call) : Type 0 where
  pub begins : total rows (start_of input) xs ≤ total rows (start_of input) ys
      → log rows (start_of input) xs ≡ take (17 * total rows (start_of input) xs) (log rows (start_of input) ys)
  pub same_log : total rows (start_of input) xs ≡ total rows (start_of input) ys → log rows (start_of input) xs ≡ log rows (start_of input) ys
  pub same_cursor : total rows (start_of input) xs ≡ total rows (start_of input) ys → last rows (start_of input) xs ≡ last rows (start_of input) ys

-- ---- in the buyer's words: a read shows the latest earlier write

-- v is what the latest of the first k records that wrote register x wrote there, or 0 if none of them did
pub record Latest (rs : List (List ℕ)) (k x v : ℕ) : Type 0 where
  pub wrote : (i : ℕ) → i < k → word (slice_index_or rs i []) 5 ≡ x → ((j : ℕ) → i < j → j < k → word (slice_index_or rs j []) 5 ≢ x) → v ≡ word (slice_index_or rs i []) 3
  pub never : ((j : ℕ) → j < k → word (slice_index_or rs j []) 5 ≢ x) → v ≡ 0

-- v is what the latest of the first k records that stored to RAM word x stored there, or the input's word, or 0, if none did
pub record LatestStore (input : List ℕ) (rs : List (List ℕ)) (k x v : ℕ) : Type 0 where
  pub wrote : (i : ℕ) → i < k → stored (slice_index_or rs i []) ≡ true → word (slice_index_or rs i []) 6 ≡ x
      → ((j : ℕ) → i < j → j < k → stored (slice_index_or rs j []) ≡ true → word (slice_index_or rs j []) 6 ≢ x) → v ≡ word (slice_index_or rs i []) 9
  pub never : ((j : ℕ) → j < k → stored (slice_index_or rs j []) ≡ true → word (slice_index_or rs j []) 6 ≢ x) → v ≡ slice_index (loaded input) x

-- record k names a register below 64 and a RAM word below 256, and shows of its row's registers 1 to 31 what was last written
-- there, and of its RAM word what was last stored there
pub record Reads (rows input : List ℕ) (rs : List (List ℕ)) (k : ℕ) : Type 0 where
  pub register : word (slice_index_or rs k []) 5 < 64
  pub address : word (slice_index_or rs k []) 6 < 256
  pub first : 0 < (row_at rows (word (slice_index_or rs k []) 0)).rs1 → (row_at rows (word (slice_index_or rs k []) 0)).rs1 < 32
      → Latest rs k (row_at rows (word (slice_index_or rs k []) 0)).rs1 (word (slice_index_or rs k []) 1)
  pub second : 0 < (row_at rows (word (slice_index_or rs k []) 0)).rs2 → (row_at rows (word (slice_index_or rs k []) 0)).rs2 < 32
      → Latest rs k (row_at rows (word (slice_index_or rs k []) 0)).rs2 (word (slice_index_or rs k []) 2)
  pub ram : LatestStore input rs k (word (slice_index_or rs k []) 6) (word (slice_index_or rs k []) 7)

-- the last cursor holds in registers 1 to 63 what was last written there, and in RAM what was last stored there
pub record Ends (rows input : List ℕ) (calls : List Call) (rs : List (List ℕ)) : Type 0 where
  pub registers : (x : ℕ) → 0 < x → x < 64 → Latest rs (length rs) x (slice_index (last rows (start_of input) calls).regs x)
  pub ram : (x : ℕ) → x < 256 → LatestStore input rs (length rs) x (slice_index (last rows (start_of input) calls).ram x)

-- ---- the whole

-- for every list of calls; for every two lists of segment calls; for every record of every joined log
pub record Demand3 : Type 0 where
  -- what a single call adds has 17 words a cycle
  pub added_sized : (rows : List ℕ) (c : Cursor) (k : Call) → length (added k (answer_of rows c k)) ≡ 17 * counted (answer_of rows c k).number k
  pub replays : (rows input : List ℕ) (calls : List Call) → Replays rows input calls
  pub prefixes : (rows input : List ℕ) (xs ys : List Call) → segments xs ≡ true → segments ys ≡ true → Prefixes rows input xs ys
  pub reads : (rows input : List ℕ) (calls : List Call) (k : ℕ) → k < length (records_in (log rows (start_of input) calls))
      → Reads rows input (records_in (log rows (start_of input) calls)) k
  pub ends : (rows input : List ℕ) (calls : List Call) → Ends rows input calls (records_in (log rows (start_of input) calls))
