-- Cursors driven by grants: the log consistency that 01 promises for a cursor covers them (02, T-06). `log`, `last` and `total` are
-- of interp's Calls, what is claimed of them of its Demand3. The function `driven_laws` of src/driven.rt has the whole for its
-- contract. Assumes nothing: these are definitions.
use Rattle.std.specs.Prelude.{◌≡◌, ℕ, ◌^◌, ◌<◌, ◌≤◌, true, List, length, map, sum}
use Rattle.interp.specs.Machine.{start_of}
use Rattle.interp.specs.Calls.{Call as CursorCall, amount, segments, log, last as last_cursor, total}
use Rattle.interp.specs.Replay.{records_in}
use Rattle.interp.specs.Demand3.{Replays, Prefixes, Reads, Ends}
use Rattle.interp.specs.Laws.{RowsAccepted, buffers_suffice}
use Rattle.dispatch.specs.Dispatch.{fresh}
use Rattle.dispatch.specs.Calls.{Call, grants, slices_to}

-- ---- the calls that drive a caller's cursor

-- the slices that adds and turns grant caller c, from the fresh dispatcher of a budget
abbrev pub slices : ℕ → ℕ → List Call → List ℕ
slices c budget ks = slices_to c (grants (fresh budget) ks)

-- segment calls whose lengths are these slices, in order, whatever their buffers
pub record Driven (lengths : List ℕ) (calls : List CursorCall) : Type 0 where
  pub only_segments : segments calls ≡ true
  pub amounts : map amount calls ≡ lengths

-- ---- what is claimed

-- demand 3 of one list of calls from a fresh cursor
pub record Consistent (rows input : List ℕ) (calls : List CursorCall) : Type 0 where
  pub replays : Replays rows input calls
  pub reads : (k : ℕ) → k < length (records_in (log rows (start_of input) calls)) → Reads rows input (records_in (log rows (start_of input) calls)) k
  pub ends : Ends rows input calls (records_in (log rows (start_of input) calls))

-- two lists of calls from a fresh cursor leave the same log and cursor
pub record SameRun (rows input : List ℕ) (xs ys : List CursorCall) : Type 0 where
  pub same_log : log rows (start_of input) xs ≡ log rows (start_of input) ys
  pub same_cursor : last_cursor rows (start_of input) xs ≡ last_cursor rows (start_of input) ys

-- the contract of `driven_laws`: of every caller c, every list of adds and turns, ks from budget b and js from budget a, and the
-- calls that they drive on any rows and input
pub record DrivenLaws : Type 0 where
  pub consistent : (c b : ℕ) (ks : List Call) (rows input : List ℕ) (calls : List CursorCall) → Driven (slices c b ks) calls
      → Consistent rows input calls
  pub prefixes : (c a b : ℕ) (js ks : List Call) (rows input : List ℕ) (xs ys : List CursorCall)
      → Driven (slices c a js) xs → Driven (slices c b ks) ys → Prefixes rows input xs ys
  -- of at most 2^62 cycles, as a budget of at most 2^62 grants, on rows that are accepted and with buffers that suffice: no call is
  -- refused, and the same total leaves the same log and cursor
  pub few : (c b : ℕ) (ks : List Call) → b ≤ 2 ^ 62 → sum (slices c b ks) ≤ 2 ^ 62
  pub accepted : (c b : ℕ) (ks : List Call) (rows input : List ℕ) (calls : List CursorCall) → Driven (slices c b ks) calls
      → RowsAccepted rows → buffers_suffice calls ≡ true → sum (slices c b ks) ≤ 2 ^ 62
      → total rows (start_of input) calls ≡ sum (slices c b ks)
  pub same : (c a b : ℕ) (js ks : List Call) (rows input : List ℕ) (xs ys : List CursorCall)
      → Driven (slices c a js) xs → Driven (slices c b ks) ys → RowsAccepted rows → buffers_suffice xs ≡ true → buffers_suffice ys ≡ true
      → sum (slices c a js) ≤ 2 ^ 62 → sum (slices c a js) ≡ sum (slices c b ks) → SameRun rows input xs ys
