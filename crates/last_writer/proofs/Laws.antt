-- The claims, from the laws of entries, answers and logs. Assumes nothing.
use mathlib.Core.Path.{◌≡◌, refl, ap, ◌∙◌}
use mathlib.Core.Bool.{true}
use mathlib.Core.List.{List, [], ◌++◌}
use Prim.Native.Nat.{ℕ, ◌+◌, ◌^◌, ◌≤◌, ◌<◌}
use native.Mathlib.Nat.{zero-add}
use native.Mathlib.Omega.{arith}
use lib.ListN.{length, get_or, drop, take, get_or-replicate, get_or-append}
use lib.Seq.{length-take-le}
use Rattle.interp.specs.Machine.{start_of}
use Rattle.interp.specs.Calls.{Call, log, total}
use Rattle.interp.specs.Replay.{records_in}
use Rattle.interp.specs.Demand3.{Demand3}
use Rattle.log_records.specs.Records.{count}
use Rattle.last_writer.specs.Index.{places, none, blank, indexed, in_range, built_of, added_of}
use Rattle.last_writer.specs.Claims.{LastWriter, Says, SameAnswer, OverCalls, IndexLaws}
use Rattle.last_writer.proofs.Entries.{says, length-indexed, indexed-latest}
use Rattle.log_records.proofs.Laws.{length-records}
use Rattle.last_writer.proofs.Answers.{Fine, fine, accepted, answer-index, answer-length, on, unwritten, length-blank}
use Rattle.last_writer.proofs.Logs.{adds, logs-whole, logs-joined}
use Rattle.last_writer.proofs.Rebuilt.{rebuilds}
use Rattle.last_writer.proofs.Range.{all-inside}

-- ---- the index of no record

blank-at : (x : ℕ) → x < places → get_or blank x 0 ≡ none
unfolding blank
blank-at x h = get_or-replicate places x none 0 h

-- ---- a built index

latest : (log buffer : List ℕ) → Fine log 0 (length buffer) → (x : ℕ) → x < places → Says (records_in log) x (get_or (built_of log buffer).index x 0)
latest log buffer f x h =
    let e : get_or (built_of log buffer).index x 0 ≡ get_or (indexed 0 (records_in log) blank) x 0 =
    ap (λ l. get_or l x 0) (answer-index log 0 blank buffer f)
    ∙ get_or-append (indexed 0 (records_in log) blank) (drop places buffer) 0 x (rw (length-indexed, length-blank) h) in
    rw e (says (records_in log) blank x (rw length-blank h) (blank-at x h) (rw length-records (omega (arith, f.few))))

built_on : (a b buffer : List ℕ) → (built_of a buffer).number ≡ 0 → SameAnswer (added_of b (count a) (built_of a buffer).index) (built_of (a ++ b) buffer)
built_on a b buffer e = rw zero-add at (on a b 0 blank buffer length-blank (fine a 0 blank buffer e))

added_on : (a b : List ℕ) (before : ℕ) (buffer : List ℕ) → (added_of a before buffer).number ≡ 0
    → SameAnswer (added_of b (before + count a) (added_of a before buffer).index) (added_of (a ++ b) before buffer)
added_on a b before buffer e =
    let f = fine a before (take places buffer) buffer e in
    on a b before (take places buffer) buffer (length-take-le places buffer f.room) f

written : (log : List ℕ) (before : ℕ) (buffer : List ℕ) → (added_of log before buffer).number ≡ 0 → (x i : ℕ) → x < places
    → LastWriter (records_in log) x i → get_or (added_of log before buffer).index x 0 ≡ before + i
written log before buffer e x i h l =
    let start = take places buffer in
    let f = fine log before start buffer e in
    let long = length-take-le places buffer f.room in
    let inside : x < length start = rw long h in
    ap (λ b. get_or b x 0) (answer-index log before start buffer f)
    ∙ get_or-append (indexed before (records_in log) start) (drop places buffer) 0 x (rw length-indexed inside)
    ∙ indexed-latest before (records_in log) start x i inside l

-- ---- the joined log of a list of calls

module _ (demand : Demand3) (rows input : List ℕ) (calls : List Call) (buffer : List ℕ)
    (few : total rows (start_of input) calls ≤ 2 ^ 62) (room : places ≤ length buffer) where
  in-range : in_range (records_in (log rows (start_of input) calls)) ≡ true
  in-range = all-inside _ (λ k h. let r = demand.reads rows input calls k h in record { register = r.register; address = r.address })

  log-fine : Fine (log rows (start_of input) calls) 0 (length buffer)
  log-fine =
      let n = (demand.replays rows input calls).sized in
      record { whole = omega (arith, n); range = in-range; few = omega (arith, n); room = room }

  no-log-fine : Fine [] 0 (length buffer)
  unfolding in_range records_in
  no-log-fine = record { whole = refl; range = refl; few = omega arith; room = room }

  over-calls : OverCalls rows input calls buffer
  over-calls =
      let all = log rows (start_of input) calls in
      let start = (built_of [] buffer).index in
      let f : Fine all 0 (length start) = rw (answer-length [] 0 blank buffer no-log-fine length-blank) log-fine in
      let sum = adds 0 start (logs-whole demand rows (start_of input) calls) (rw (logs-joined demand) f) in
      let few : length (records_in all) ≤ 2 ^ 62 = rw length-records (omega (arith, log-fine.few)) in
      record {
        accepted = accepted all 0 blank buffer log-fine;
        built = rebuilds rows input calls (records_in all) (built_of all buffer).index (demand.ends rows input calls) in-range few (latest all buffer log-fine);
        all_accepted = sum.all;
        joined =
            sum.same
            ∙ ap (λ l. (added_of l 0 start).index) (logs-joined demand rows (start_of input) calls)
            ∙ (on [] all 0 blank buffer length-blank no-log-fine).index (accepted all 0 (take places start) start f);
      }

pub index-laws : Demand3 → IndexLaws
index-laws demand =
    record {
      latest = λ log buffer e. latest log buffer (fine log 0 blank buffer e);
      built_on = built_on;
      added_on = added_on;
      written = written;
      unwritten = unwritten;
      calls = over-calls demand;
    }
