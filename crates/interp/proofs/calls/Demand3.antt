-- The proof of demand 3, from the chain of honest cycles that a list of calls is. Assumes nothing.
use Rattle.std.proofs.Common.{◌≡◌, ℕ, ◌-◌, ◌*◌, ◌/◌, ◌<◌, ◌≤◌, true, List, map, length, get_or, take, sym, refl, ap, ◌∙◌, add-sub_of_le, arith, take_at}
use Rattle.std.specs.Simd.{first_chunks}
use Rattle.interp.specs.declared.Cursor.{Cursor}
use Rattle.interp.specs.declared.CycleRecord.{CycleRecord}
use Rattle.interp.specs.Machine.{start_of, words, flat}
use Rattle.interp.specs.Cycle.{cycle}
use Rattle.interp.specs.Calls.{Call, recorded, end, log, last, total, segments}
use Rattle.interp.specs.Replay.{fresh, feed, records_in, replay}
use Rattle.interp.specs.Demand3.{Demand3, Replays, Prefixes, Reads, Ends}
use Rattle.interp.proofs.calls.Chain.{Follows, feed-follows, get_or-past, length-flat, chunks-flat}
use Rattle.interp.proofs.calls.Runs.{trace, added_sized, log_trace, length_trace, calls_chain, one_run, recorded-add, flat_append, length-words}
use Rattle.interp.proofs.calls.Latest.{last-write, last-store, shows}

-- ---- the replay

records-flat : (rs : List CycleRecord) → records_in (flat rs) ≡ map words rs
unfolding records_in
records-flat rs =
    let n : length (flat rs) / 17 ≡ length rs = omega (arith, length-flat rs) in
    ap (λ k. first_chunks 17 k (flat rs)) n ∙ chunks-flat rs

follows-start : (input : List ℕ) → Follows (fresh input) (start_of input)
unfolding fresh start_of
follows-start input = record { agrees = refl; row = refl; regs = refl; ram = refl }

start_level : (input : List ℕ) → (start_of input).micro_pc.0 ≡ (start_of input).next_fetch.0
unfolding start_of
start_level input = refl

follows : (rows input : List ℕ) (calls : List Call) → Follows (replay rows input (log rows (start_of input) calls)) (last rows (start_of input) calls)
unfolding replay
follows rows input calls =
    rw (log_trace, records-flat)
    (feed-follows (fresh input) (follows-start input) (calls_chain rows (start_of input) calls (start_level input)))

replays : (rows input : List ℕ) (calls : List Call) → Replays rows input calls
replays rows input calls =
    let c = start_of input in
    let f = follows rows input calls in
    record {
      sized = ap length (log_trace rows c calls) ∙ length-flat (trace rows c calls) ∙ ap (λ n. 17 * n) (length_trace rows c calls);
      agrees = f.agrees;
      registers = f.regs;
      ram = f.ram;
    }

-- ---- two lists of segment calls

-- n cycles from a cursor, as words
abbrev run : List ℕ → ℕ → Cursor → List ℕ
run rows n c = flat (recorded (cycle rows) n c)

run_begins : (rows : List ℕ) (c : Cursor) (m n : ℕ) → m ≤ n → run rows m c ≡ take (17 * m) (run rows n c)
run_begins rows c m n h =
    let f = cycle rows in
    let rs = recorded f m c in
    let more = recorded f (n - m) (end f m c) in
    sym (ap (λ k. take (17 * m) (run rows k c)) (sym (add-sub_of_le h))
    ∙ ap (λ k. take (17 * m) (flat k)) (recorded-add f m (n - m) c)
    ∙ ap (take (17 * m)) (flat_append rs more)
    ∙ take_at (flat rs) (flat more) (17 * m) (length-words f m c))

log_run : (rows : List ℕ) (c : Cursor) (ks : List Call) → segments ks ≡ true → log rows c ks ≡ run rows (total rows c ks) c
log_run rows c ks t = log_trace rows c ks ∙ ap flat (one_run rows c ks t).shows

prefixes : (rows input : List ℕ) (xs ys : List Call) → segments xs ≡ true → segments ys ≡ true → Prefixes rows input xs ys
prefixes rows input xs ys s t =
    let c = start_of input in
    let ex = log_run rows c xs s in
    let ey = log_run rows c ys t in
    record {
      begins = λ h. ex ∙ run_begins rows c _ _ h ∙ ap (take (17 * total rows c xs)) (sym ey);
      same_log = λ e. ex ∙ ap (λ n. run rows n c) e ∙ sym ey;
      same_cursor = λ e. (one_run rows c xs s).stops ∙ ap (λ n. end (cycle rows) n c) e ∙ sym (one_run rows c ys t).stops;
    }

-- ---- the latest write, as each record shows it and as the last cursor has it

module _ (rows input : List ℕ) (calls : List Call) where
  read : (k : ℕ) → k < length (records_in (log rows (start_of input) calls)) → Reads rows input (records_in (log rows (start_of input) calls)) k
  unfolding replay
  read k h = shows rows input (records_in (log rows (start_of input) calls)) (follows rows input calls).agrees k h

  ends : Ends rows input calls (records_in (log rows (start_of input) calls))
  unfolding replay
  ends =
      let rs = records_in (log rows (start_of input) calls) in
      let s = feed rows (fresh input) rs in
      let c = last rows (start_of input) calls in
      let f = follows rows input calls in
      record {
        registers = λ x p q. last-write rows input rs x _ q (sym (get_or-past s.regs c.regs x f.regs p));
        ram = λ x q. last-store rows input rs x _ q (ap (λ l. get_or l x 0) (sym f.ram));
      }

-- ---- the whole

pub demand3 : Demand3
demand3 = record { added_sized = added_sized; replays = replays; prefixes = prefixes; reads = read; ends = ends }
