-- What is claimed of execute: the live count is the steps taken, and a larger limit changes nothing once the machine has
-- halted. Assumes nothing.
use Rattle.std.proofs.Common.{◌≡◌, ℕ, zero, suc, ◌+◌, ◌-◌, ◌*◌, ◌^◌, ◌<◌, ◌≤◌, Bool, true, false, List, [], ◌∷◌, ◌++◌, length, take, drop, replicate, sym, refl, ap, ◌∙◌, ap₂, append_assoc, append-nil, zero-add, arith, length-append, take_at}
use lib.ListN.{length-replicate}
use Rattle.refusal_table.specs.Table.{first_met}
use Rattle.interp.specs.declared.Cursor.{Cursor}
use Rattle.interp.specs.declared.Request.TheVariants.{Segment, Padding}
use Rattle.interp.specs.Machine.{start_of, flat}
use Rattle.interp.specs.Cycle.{commit, step_at, live, frozen_at, padding, cycle}
use Rattle.interp.specs.Calls.{recorded, end, segment, padded, amount, refusals, Answered, answer_of, counted, added, last, log}
use Rattle.interp.specs.Execute.{live_count_of, live_records_of, stopped_at, next_power_of_two, length_lines, execute_refusals, executed, execution_for, execute_of, Counts, SameAnswer, Joined, ExecuteLaws}
use Rattle.interp.proofs.calls.Runs.{length-words}
use Rattle.interp.proofs.run.Powers.{smallest}
use Rattle.interp.proofs.refusals.Judged.{rows_accepted, fits_accepted, accepted_execution, accepted_answer, accepted_is}
use Rattle.interp.proofs.run.Halting.{count-halted, count-live, count_most, ran_end, ran_recorded, live_kept}

module _ (rows : List ℕ) where
  -- ---- the live cycles

  running : (n : ℕ) (c : Cursor) (j : ℕ) → j < live_count_of rows n c → (end (live rows) j c).halted ≡ false
  unfolding live_count_of end
  running zero c j h = absurd (omega (arith, h))
  running (suc n) c j h = go c.halted refl j h (running n (live rows c).after)
    where
      go : (b : Bool) → c.halted ≡ b → (i : ℕ) → i < live_count_of rows (suc n) c
          → ((k : ℕ) → k < live_count_of rows n (live rows c).after → (end (live rows) k (live rows c).after).halted ≡ false)
          → (end (live rows) i c).halted ≡ false
      go true e i q rest = absurd (omega (arith, q, count-halted rows (suc n) c e))
      go false e zero q rest = e
      go false e (suc i) q rest = rest i (omega (arith, q, count-live rows n c e))

  stopped : (n : ℕ) (c : Cursor) → live_count_of rows n c < n → (stopped_at rows n c).halted ≡ true
  unfolding live_count_of end
  stopped zero c h = absurd (omega (arith, h))
  stopped (suc n) c h = go c.halted refl (stopped n (live rows c).after)
    where
      go : (b : Bool) → c.halted ≡ b
          → (live_count_of rows n (live rows c).after < n → (stopped_at rows n (live rows c).after).halted ≡ true)
          → (stopped_at rows (suc n) c).halted ≡ true
      go true e rest = rw (count-halted rows (suc n) c e) e
      go false e rest = rw (count-live rows n c e) (rest (omega (arith, h, count-live rows n c e)))

  -- a larger limit finds no more live cycles where the machine has halted
  same_count : (max more : ℕ) (c : Cursor) → max ≤ more → (stopped_at rows max c).halted ≡ true → live_count_of rows more c ≡ live_count_of rows max c
  unfolding live_count_of end
  same_count zero more c le h = count-halted rows more c h
  same_count (suc max) zero c le h = absurd (omega (arith, le))
  same_count (suc max) (suc more) c le h = go c.halted refl (same_count max more (live rows c).after (omega (arith, le)))
    where
      go : (b : Bool) → c.halted ≡ b
          → ((stopped_at rows max (live rows c).after).halted ≡ true → live_count_of rows more (live rows c).after ≡ live_count_of rows max (live rows c).after)
          → live_count_of rows (suc more) c ≡ live_count_of rows (suc max) c
      go true e rest = count-halted rows (suc more) c e ∙ sym (count-halted rows (suc max) c e)
      go false e rest = count-live rows more c e ∙ ap suc (rest (rw (count-live rows max c e) at h)) ∙ sym (count-live rows max c e)

  -- ---- what cycles keep

  live-cycles : (k : ℕ) (c : Cursor) → (end (live rows) k c).cycles ≡ c.cycles + k
  unfolding end live step_at commit
  live-cycles zero c = omega arith
  live-cycles (suc k) c = live-cycles k (live rows c).after ∙ omega arith

  padding-cycles : (k : ℕ) (c : Cursor) → (end (padding rows) k c).cycles ≡ c.cycles
  unfolding end padding frozen_at
  padding-cycles zero c = refl
  padding-cycles (suc k) c = padding-cycles k (padding rows c).after

  padding-halted : (k : ℕ) (c : Cursor) → (end (padding rows) k c).halted ≡ c.halted
  unfolding end padding frozen_at
  padding-halted zero c = refl
  padding-halted (suc k) c = padding-halted k (padding rows c).after

  -- ---- an accepted execution

  module _ (c : Cursor) (max : ℕ) (few : max ≤ 2 ^ 32) where
    abbrev count : ℕ
    count = next_power_of_two (live_count_of rows max c)

    -- its records
    abbrev made : List ℕ
    made = flat (live_records_of rows max c) ++ flat (recorded (padding rows) (count - live_count_of rows max c) (stopped_at rows max c))

    made_words : (b : List ℕ) → take (17 * count) (executed rows c max b).buffer ≡ made
    unfolding executed
    made_words b =
        let k = live_count_of rows max c in
        let p = flat (live_records_of rows max c) in
        let q = flat (recorded (padding rows) (count - k) (stopped_at rows max c)) in
        let enough : k ≤ count = (smallest k (omega (arith, few, count_most rows max c))).enough in
        let long : length (p ++ q) ≡ 17 * count =
        omega (arith, length-append p q, length-words (live rows) k c, length-words (padding rows) (count - k) (stopped_at rows max c), enough) in
        ap (take (17 * count)) (sym (append_assoc p q (drop (17 * count) b))) ∙ take_at (p ++ q) (drop (17 * count) b) (17 * count) long

  executed-larger : (c : Cursor) (max more : ℕ) (b₁ b₂ : List ℕ) → more ≤ 2 ^ 32 → max ≤ more → (executed rows c max b₁).cursor.halted ≡ true
      → SameAnswer (executed rows c max b₁) (executed rows c more b₂)
  unfolding executed
  executed-larger c max more b₁ b₂ few le h =
      let k = live_count_of rows max c in
      let halted = sym (padding-halted (next_power_of_two k - k) (stopped_at rows max c)) ∙ h in
      let same : live_count_of rows more c ≡ k = same_count max more c le halted in
      let w₁ = made_words c max (omega (arith, few, le)) b₁ in
      let w₂ = made_words c more few b₂ in
      record {
        live_count = sym same;
        record_count = ap next_power_of_two (sym same);
        cursor = ap (λ (m : ℕ). end (padding rows) (next_power_of_two m - m) (end (live rows) m c)) (sym same);
        records = w₁ ∙ ap (λ (m : ℕ). flat (recorded (live rows) m c) ++ flat (recorded (padding rows) (next_power_of_two m - m) (end (live rows) m c))) (sym same) ∙ sym w₂;
      }

  executed-cycles : (c : Cursor) (max : ℕ) (b : List ℕ) → (executed rows c max b).cursor.cycles ≡ c.cycles + (executed rows c max b).live_count
  unfolding executed
  executed-cycles c max b = padding-cycles (next_power_of_two (live_count_of rows max c) - live_count_of rows max c) (stopped_at rows max c) ∙ live-cycles (live_count_of rows max c) c

  -- ---- the calls that it stands for

  -- as many live cycles as there are, all are taken again
  count_again : (max : ℕ) (c : Cursor) → live_count_of rows (live_count_of rows max c) c ≡ live_count_of rows max c
  unfolding live_count_of
  count_again zero c = refl
  count_again (suc max) c = go c.halted refl (count_again max (live rows c).after)
    where
      go : (b : Bool) → c.halted ≡ b
          → live_count_of rows (live_count_of rows max (live rows c).after) (live rows c).after ≡ live_count_of rows max (live rows c).after
          → live_count_of rows (live_count_of rows (suc max) c) c ≡ live_count_of rows (suc max) c
      go true e rest = rw (count-halted rows (suc max) c e) refl
      go false e rest = rw (count-live rows max c e) (count-live rows (live_count_of rows max (live rows c).after) c e ∙ ap suc rest)

  -- so a segment of that length is live throughout
  module _ (c : Cursor) (max : ℕ) where
    abbrev k : ℕ
    k = live_count_of rows max c

    none : k - live_count_of rows k c ≡ 0
    none = omega (arith, count_again max c)

    segment-end : end (cycle rows) k c ≡ stopped_at rows max c
    unfolding end
    segment-end = sym (ran_end rows (Segment k) c) ∙ rw (none, count_again max c) refl

    segment-recorded : recorded (cycle rows) k c ≡ live_records_of rows max c
    unfolding recorded
    segment-recorded = sym (ran_recorded rows (Segment k) c) ∙ rw (none, count_again max c) (append-nil (live_records_of rows max c))

  -- live cycles stay within the rows
  inside : (n : ℕ) (c : Cursor) → c.micro_pc.0 < length rows → c.next_fetch.0 < length rows
      → ((end (live rows) n c).micro_pc.0 < length rows) × ((end (live rows) n c).next_fetch.0 < length rows)
  unfolding end
  inside zero c p f = (p, f)
  inside (suc n) c p f = let kept = live_kept rows c p in inside n (live rows c).after kept.0 kept.1.0

-- ---- the call

execution_for-number : (number : ℕ) (rows input : List ℕ) (max : ℕ) (b : List ℕ) → (execution_for number rows input max b).number ≡ number
unfolding execution_for executed
execution_for-number zero rows input max b = refl
execution_for-number (suc number) rows input max b = refl

execution_for-cycles : (number : ℕ) (rows input : List ℕ) (max : ℕ) (b : List ℕ) → (execution_for number rows input max b).cursor.cycles ≡ (execution_for number rows input max b).live_count
unfolding execution_for start_of
execution_for-cycles zero rows input max b = executed-cycles rows (start_of input) max b ∙ zero-add _
execution_for-cycles (suc number) rows input max b = refl

execute_accepted : (rows input : List ℕ) (max : ℕ) (b : List ℕ) → (execute_of rows input max b).number ≡ 0
    → (execute_of rows input max b ≡ executed rows (start_of input) max b) × (max ≤ 2 ^ 32)
unfolding execute_of
execute_accepted rows input max b e =
    let none = sym (execution_for-number (first_met (execute_refusals rows max (length b))) rows input max b) ∙ e in
    (accepted_is rows input max b (sym none), (accepted_execution rows input max (length b) none).1.0)

counts : (rows input : List ℕ) (max : ℕ) (b : List ℕ) → (execute_of rows input max b).number ≡ 0 → Counts rows input max (execute_of rows input max b)
unfolding executed
counts rows input max b e = rw (execute_accepted rows input max b e).0 (record { live_count = refl; record_count = refl })

larger : (rows input : List ℕ) (max more : ℕ) (b₁ b₂ : List ℕ)
    → (execute_of rows input max b₁).number ≡ 0 → (execute_of rows input max b₁).cursor.halted ≡ true
    → max ≤ more → (execute_of rows input more b₂).number ≡ 0
    → SameAnswer (execute_of rows input max b₁) (execute_of rows input more b₂)
larger rows input max more b₁ b₂ e₁ h le e₂ =
    let a₁ = execute_accepted rows input max b₁ e₁ in
    let a₂ = execute_accepted rows input more b₂ e₂ in
    rw (a₁.0, a₂.0) (executed-larger rows (start_of input) max more b₁ b₂ a₂.1 le (rw a₁.0 at h))

-- two accepted calls, one after the other: their log, and their last cursor
two_calls : (rows : List ℕ) (c : Cursor) (m n : ℕ) (z₁ z₂ : List ℕ)
    → 0 ≡ first_met (refusals rows c true m (length z₁)) → 0 ≡ first_met (refusals rows (end (cycle rows) m c) false n (length z₂))
    → (log rows c (segment m z₁ ∷ padded n z₂ ∷ []) ≡ flat (recorded (cycle rows) m c) ++ flat (recorded (padding rows) n (end (cycle rows) m c)))
    × (last rows c (segment m z₁ ∷ padded n z₂ ∷ []) ≡ end (padding rows) n (end (cycle rows) m c))
unfolding log last added counted amount
two_calls rows c m n z₁ z₂ e₁ e₂ =
    let c₁ = end (cycle rows) m c in
    let p = flat (recorded (cycle rows) m c) in
    let q = flat (recorded (padding rows) n c₁) in
    let a₁ = accepted_answer (Segment m) rows c z₁ e₁ in
    let a₂ = accepted_answer (Padding n) rows c₁ z₂ e₂ in
    let cursor : Answered → Cursor = λ a. a.cursor in (
      rw (a₁, a₂) (ap₂ ◌++◌ (take_at p (drop (17 * m) z₁) (17 * m) (length-words (cycle rows) m c)) (append-nil (take (17 * n) (q ++ drop (17 * n) z₂)) ∙ take_at q (drop (17 * n) z₂) (17 * n) (length-words (padding rows) n c₁))),
      ap (λ (d : Cursor). (answer_of rows d (padded n z₂)).cursor) (ap cursor a₁) ∙ ap cursor a₂,
    )

executed-joined : (rows input : List ℕ) (max : ℕ) (b : List ℕ) → first_met (execute_refusals rows max (length b)) ≡ 0
    → Joined rows input (executed rows (start_of input) max b)
unfolding executed start_of
executed-joined rows input max b e =
    let c = start_of input in
    let k = live_count_of rows max c in
    let rest = next_power_of_two k - k in
    let passed = rows_accepted rows (length_lines max (length b)) e in
    let few = (accepted_execution rows input max (length b) e).1.0 in
    let most = count_most rows max c in
    let e₁ : end (cycle rows) k c ≡ stopped_at rows max c = segment-end rows c max in
    let within = inside rows k c passed.some passed.some in
    let z₁ : List ℕ = replicate (17 * k) 0 in
    let z₂ : List ℕ = replicate (17 * rest) 0 in
    let first = fits_accepted rows c true k (length z₁) passed.none passed.some passed.some (omega (arith, few, most)) (omega (arith, length-replicate {A = ℕ} (17 * k) 0)) in
    let second = fits_accepted rows (stopped_at rows max c) false rest (length z₂) passed.none within.0 within.1 (omega arith) (omega (arith, length-replicate {A = ℕ} (17 * rest) 0)) in
    let two = two_calls rows c k rest z₁ z₂ first (rw e₁ second) in
    record {
      records = made_words rows c max few b ∙ sym (two.0 ∙ rw (e₁, segment-recorded rows c max) refl);
      cursor = sym (two.1 ∙ rw e₁ refl);
    }

joined : (rows input : List ℕ) (max : ℕ) (b : List ℕ) → (execute_of rows input max b).number ≡ 0 → Joined rows input (execute_of rows input max b)
unfolding execute_of
joined rows input max b e =
    let none = sym (execution_for-number (first_met (execute_refusals rows max (length b))) rows input max b) ∙ e in
    rw (accepted_is rows input max b (sym none)) (executed-joined rows input max b none)

execute_cycles : (rows input : List ℕ) (max : ℕ) (b : List ℕ) → (execute_of rows input max b).cursor.cycles ≡ (execute_of rows input max b).live_count
unfolding execute_of
execute_cycles rows input max b = execution_for-cycles (first_met (execute_refusals rows max (length b))) rows input max b

pub execute_laws : ExecuteLaws
execute_laws =
    record {
      smallest = smallest;
      steps = λ rows max c. record { most = count_most rows max c; running = running rows max c; stopped = stopped rows max c };
      counts = counts;
      cycles = execute_cycles;
      joined = joined;
      larger = larger;
    }
