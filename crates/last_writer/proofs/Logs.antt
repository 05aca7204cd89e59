-- The logs of calls: each is whole, joined they are the log, and adding them one after the other is adding that.
-- Assumes nothing.
use Rattle.std.proofs.Common.{◌≡◌, ℕ, zero, suc, ◌+◌, ◌*◌, ◌%◌, ◌≤◌, Bool, true, false, cond, eqb, List, [], ◌∷◌, ◌++◌, length, take, refl, sym, ap, ◌∙◌, arith, length-append, eq-eqb}
use mathlib.Core.Bool.{and-eq-true_iff, false≢true}
use lib.ListN.{take-append-drop}
use lib.Seq.{length-take-le}
use Rattle.interp.specs.declared.Cursor.{Cursor}
use Rattle.interp.specs.Calls.{Call, answer_of, counted, added, log}
use Rattle.interp.specs.Demand3.{Demand3}
use Rattle.interp.specs.Replay.{records_in}
use Rattle.log_records.specs.Records.{count}
use Rattle.log_records.proofs.Laws.{count-append}
use Rattle.last_writer.specs.Index.{places, indexed, in_range, added_of}
use Rattle.last_writer.specs.Claims.{added_all, all_accepted, logs}
use Rattle.last_writer.proofs.Range.{range-joined}
use Rattle.last_writer.proofs.Answers.{Fine, accepted, answer-index, answer-length, on}

-- ---- segments, each whole

-- one after the other
unfoldable pub joined : List (List ℕ) → List ℕ
joined [] = []
joined (s ∷ ss) = s ++ joined ss

pub data Whole : List (List ℕ) → Type 0 where
  none : Whole []
  one : {s : List ℕ} {ss : List (List ℕ)} → length s % 17 ≡ 0 → Whole ss → Whole (s ∷ ss)

-- ---- adding them one after the other

-- each is accepted, and they leave what adding the joined log leaves
pub record Adds (before : ℕ) (ss : List (List ℕ)) (buffer : List ℕ) : Type 0 where
  pub all : all_accepted before ss buffer ≡ true
  pub same : added_all before ss buffer ≡ (added_of (joined ss) before buffer).index

full : (buffer : List ℕ) → places ≤ length buffer → length (take places buffer) ≡ places
full buffer h = length-take-le places buffer h

pub adds : (before : ℕ) {ss : List (List ℕ)} (buffer : List ℕ) → Whole ss → Fine (joined ss) before (length buffer) → Adds before ss buffer
unfolding all_accepted added_all joined indexed records_in
adds before buffer none f =
    record {
      all = refl;
      same = sym (answer-index [] before (take places buffer) buffer f ∙ take-append-drop places buffer);
    }
adds before buffer (one {s} {ss} w ws) f =
    let t = (and-eq-true_iff (in_range (records_in s)) (in_range (records_in (joined ss)))).0 (sym (range-joined s (joined ss) w) ∙ f.range) in
    let n = count-append s (joined ss) w in
    let l = length-append s (joined ss) in
    let g : Fine s before (length buffer) = record { whole = w; range = t.0; few = omega (arith, f.few, n); room = f.room } in
    let long = full buffer f.room in
    let size = answer-length s before (take places buffer) buffer g long in
    let h : Fine (joined ss) (before + count s) (length (added_of s before buffer).index) =
    record { whole = omega (arith, f.whole, l); range = t.1; few = omega (arith, f.few, n); room = rw size f.room } in
    let rest = adds (before + count s) (added_of s before buffer).index ws h in
    record {
      all = rw (eq-eqb _ _ (accepted s before (take places buffer) buffer g)) rest.all;
      same =
          rest.same
          ∙ (on s (joined ss) before (take places buffer) buffer long g).index
          (accepted (joined ss) (before + count s) (take places (added_of s before buffer).index) (added_of s before buffer).index h);
    }

-- ---- the log of a call is whole, and empty if the call is refused

counted_refused : (number : ℕ) (k : Call) → eqb number 0 ≡ false → counted number k ≡ 0
unfolding counted
counted_refused zero k e = absurd (false≢true (sym e))
counted_refused (suc number) k e = refl

empty : (l : List ℕ) → length l ≡ 0 → l ≡ []
empty [] h = refl
empty (x ∷ l) h = absurd (omega arith)

module _ (demand : Demand3) (rows : List ℕ) where
  call-whole : (c : Cursor) (k : Call) → length (added k (answer_of rows c k)) % 17 ≡ 0
  call-whole c k = omega (arith, demand.added_sized rows c k)

  call-empty : (c : Cursor) (k : Call) → eqb (answer_of rows c k).number 0 ≡ false → added k (answer_of rows c k) ≡ []
  call-empty c k e = empty _ (demand.added_sized rows c k ∙ ap (λ n. 17 * n) (counted_refused (answer_of rows c k).number k e))

-- ---- of a list of calls

-- a log, if its call is accepted, before others
cond-whole : (b : Bool) (s : List ℕ) (ss : List (List ℕ)) → length s % 17 ≡ 0 → Whole ss → Whole (cond b (s ∷ ss) ss)
cond-whole true s ss h w = one h w
cond-whole false s ss h w = w

cond-joined : (b : Bool) (s : List ℕ) (ss : List (List ℕ)) → (b ≡ false → s ≡ []) → joined (cond b (s ∷ ss) ss) ≡ s ++ joined ss
unfolding joined
cond-joined true s ss h = refl
cond-joined false s ss h = rw (h refl) refl

module _ (demand : Demand3) (rows : List ℕ) where
  pub logs-whole : (c : Cursor) (ks : List Call) → Whole (logs rows c ks)
  unfolding logs
  logs-whole c [] = none
  logs-whole c (k ∷ ks) =
      let a = answer_of rows c k in
      cond-whole (eqb a.number 0) (added k a) (logs rows a.cursor ks) (call-whole demand rows c k) (logs-whole a.cursor ks)

  pub logs-joined : (c : Cursor) (ks : List Call) → joined (logs rows c ks) ≡ log rows c ks
  unfolding logs joined log
  logs-joined c [] = refl
  logs-joined c (k ∷ ks) =
      let a = answer_of rows c k in
      cond-joined (eqb a.number 0) (added k a) (logs rows a.cursor ks) (call-empty demand rows c k)
      ∙ ap (λ l. added k a ++ l) (logs-joined a.cursor ks)
