-- n cycles, calls, and lists of calls: what they record and where they end. Assumes nothing.
use Rattle.std.proofs.Common.{◌≡◌, ℕ, zero, suc, ◌+◌, ◌*◌, ◌<◌, true, false, ◌&&◌, ltb, ◌≢◌, List, [], ◌∷◌, ◌++◌, map, length, take, drop, sym, refl, ap, ◌∙◌, ap₂, append_assoc, append-nil, suc-add, zero-add, arith, length-append, drop-drop, take_at, drop_at, ltb-true}
use mathlib.Core.Bool.{and-eq-true_iff, false≢true}
use borrow.Author.Tests.{not-false}
use Rattle.refusal_table.specs.Table.{Line, first_met}
use Rattle.refusal_table.proofs.Laws.{unmet}
use Rattle.interp.specs.declared.Cursor.{Cursor}
use Rattle.interp.specs.declared.CycleRecord.{CycleRecord}
use Rattle.interp.specs.Machine.{words, flat}
use Rattle.interp.specs.Cycle.{Step, cycle}
use Rattle.interp.specs.Calls.{recorded, end, Call, segment, padded, amount, lent, turn, is_segment, refusals, refusal_of, settled, answer_of, counted, added, last, log, total, segments}
use Rattle.interp.proofs.cycle.Honest.{Fit, Honest, cycle_honest, padding_honest}
use Rattle.interp.proofs.calls.Chain.{Chain, done, more, join, length-flat}

-- ---- n cycles

pub length-recorded : (f : Cursor → Step) (n : ℕ) (c : Cursor) → length (recorded f n c) ≡ n
unfolding recorded
length-recorded f zero c = refl
length-recorded f (suc n) c = ap suc (length-recorded f n (f c).after)

pub length-words : (f : Cursor → Step) (n : ℕ) (c : Cursor) → length (flat (recorded f n c)) ≡ 17 * n
length-words f n c = length-flat (recorded f n c) ∙ ap (λ k. 17 * k) (length-recorded f n c)

pub end-add : (f : Cursor → Step) (m n : ℕ) (c : Cursor) → end f (m + n) c ≡ end f n (end f m c)
unfolding end
end-add f zero n c = ap (λ k. end f k c) (zero-add n)
end-add f (suc m) n c = ap (λ k. end f k c) (suc-add m n) ∙ end-add f m n (f c).after

pub recorded-add : (f : Cursor → Step) (m n : ℕ) (c : Cursor) → recorded f (m + n) c ≡ recorded f m c ++ recorded f n (end f m c)
unfolding recorded end
recorded-add f zero n c = ap (λ k. recorded f k c) (zero-add n)
recorded-add f (suc m) n c = ap (λ k. recorded f k c) (suc-add m n) ∙ ap (λ k. (f c).shown ∷ k) (recorded-add f m n (f c).after)

-- one more cycle, at the end
pub end-suc : (f : Cursor → Step) (n : ℕ) (c : Cursor) → end f (n + 1) c ≡ (f (end f n c)).after
unfolding end
end-suc f n c = end-add f n 1 c

pub recorded-suc : (f : Cursor → Step) (n : ℕ) (c : Cursor) → recorded f (n + 1) c ≡ recorded f n c ++ ((f (end f n c)).shown ∷ [])
unfolding recorded
recorded-suc f n c = recorded-add f n 1 c

pub flat_append : (rs ss : List CycleRecord) → flat (rs ++ ss) ≡ flat rs ++ flat ss
unfolding flat
flat_append [] ss = refl
flat_append (r ∷ rs) ss = ap (λ k. words r ++ k) (flat_append rs ss) ∙ sym (append_assoc (words r) (flat rs) (flat ss))

-- the buffer b after n cycles, with the next record's words in its next 17 places, is the buffer after n + 1
pub buffer-suc : (f : Cursor → Step) (n : ℕ) (c : Cursor) (b : List ℕ)
    → take (17 * n) (flat (recorded f n c) ++ drop (17 * n) b)
    ++ (words (f (end f n c)).shown ++ drop 17 (drop (17 * n) (flat (recorded f n c) ++ drop (17 * n) b)))
    ≡ flat (recorded f (n + 1) c) ++ drop (17 * (n + 1)) b
unfolding flat
buffer-suc f n c b =
    let rs = recorded f n c in
    let r = (f (end f n c)).shown in
    let l = length-words f n c in
    let m : 17 * n + 17 ≡ 17 * (n + 1) = omega arith in
    let rest : drop 17 (drop (17 * n) (flat rs ++ drop (17 * n) b)) ≡ drop (17 * (n + 1)) b =
    ap (drop 17) (drop_at (flat rs) (drop (17 * n) b) (17 * n) l) ∙ drop-drop 17 (17 * n) b ∙ ap (λ k. drop k b) m in
    let grown : flat (recorded f (n + 1) c) ≡ flat rs ++ words r =
    ap flat (recorded-suc f n c) ∙ flat_append rs (r ∷ []) ∙ ap (λ k. flat rs ++ k) (append-nil (words r)) in
    ap₂ (λ x y. x ++ (words r ++ y)) (take_at (flat rs) (drop (17 * n) b) (17 * n) l) rest
    ∙ sym (append_assoc (flat rs) (words r) (drop (17 * (n + 1)) b))
    ∙ ap (λ k. k ++ drop (17 * (n + 1)) b) (sym grown)

-- ---- an accepted call meets no line of the table

-- no line is met, up to one that has the number 0
abbrev Unmet : List Line → Type 0
Unmet [] = Unit {0}
Unmet (l ∷ ls) = l.number ≢ 0 → (l.met ≡ false) × Unmet ls

all_unmet : (ls : List Line) → first_met ls ≡ 0 → Unmet ls
all_unmet [] e = tt
all_unmet (l ∷ ls) e = λ h. let u = unmet l.met l.number (first_met ls) h e in (u.0, all_unmet ls u.1)

accepted_inside : (rows : List ℕ) (c : Cursor) (k : Call) → refusal_of rows c k ≡ 0 → c.next_fetch.0 < length rows
unfolding refusal_of
accepted_inside rows c k e =
    let pc = ltb c.micro_pc.0 (length rows) in
    let fetch = ltb c.next_fetch.0 (length rows) in
    let lines = all_unmet (refusals rows c (is_segment k) (amount k) (length (lent k))) e in
    let fourth = ((((lines (omega arith)).1 (omega arith)).1 (omega arith)).1 (omega arith)).0 in
    ltb-true _ _ ((and-eq-true_iff pc fetch).0 (not-false (pc && fetch) fourth)).1

-- ---- n cycles are a chain

module _ (rows : List ℕ) (f : Cursor → Step) (honest : (c : Cursor) → Fit rows c → Honest rows c (words (f c).shown) (f c).after) where
  turns : (n : ℕ) (c : Cursor) → Fit rows c → Chain rows c (map words (recorded f n c)) (end f n c)
  unfolding recorded end
  turns zero c h = done
  turns (suc n) c h = more (honest c h) (turns n (f c).after (honest c h).fit)

  turns_level : (n : ℕ) (c : Cursor) → Fit rows c → (end f n c).micro_pc.0 ≡ (end f n c).next_fetch.0
  unfolding end
  turns_level zero c h = h.level
  turns_level (suc n) c h = turns_level n (f c).after (honest c h).fit

turn_honest : (k : Call) (rows : List ℕ) (c : Cursor) → Fit rows c → Honest rows c (words (turn k rows c).shown) (turn k rows c).after
unfolding turn
turn_honest (segment n b) rows c h = cycle_honest rows c h
turn_honest (padded n b) rows c h = padding_honest rows c h

-- ---- a list of calls: its records, of which the log is the words; how many they are; the chain that they are

-- the records of a call that returns a number
did : ℕ → List ℕ → Cursor → Call → List CycleRecord
did zero rows c k = recorded (turn k rows) (amount k) c
did (suc number) rows c k = []

-- the records of a list of calls
pub trace : List ℕ → Cursor → List Call → List CycleRecord
trace rows c [] = []
trace rows c (k ∷ ks) = did (refusal_of rows c k) rows c k ++ trace rows (answer_of rows c k).cursor ks

added_did : (number : ℕ) (rows : List ℕ) (c : Cursor) (k : Call) → added k (settled number rows c k) ≡ flat (did number rows c k)
unfolding did added settled counted flat
added_did zero rows c k =
    let n = amount k in
    take_at (flat (recorded (turn k rows) n c)) (drop (17 * n) (lent k)) (17 * n) (length-words (turn k rows) n c)
added_did (suc number) rows c k = refl

pub log_trace : (rows : List ℕ) (c : Cursor) (ks : List Call) → log rows c ks ≡ flat (trace rows c ks)
unfolding log trace answer_of flat
log_trace rows c [] = refl
log_trace rows c (k ∷ ks) =
    let number = refusal_of rows c k in
    let c₁ = (answer_of rows c k).cursor in
    ap₂ ◌++◌ (added_did number rows c k) (log_trace rows c₁ ks) ∙ sym (flat_append (did number rows c k) (trace rows c₁ ks))

length_did : (number : ℕ) (rows : List ℕ) (c : Cursor) (k : Call) → length (did number rows c k) ≡ counted (settled number rows c k).number k
unfolding did counted settled
length_did zero rows c k = length-recorded (turn k rows) (amount k) c
length_did (suc number) rows c k = refl

-- a call adds 17 words a cycle
pub added_sized : (rows : List ℕ) (c : Cursor) (k : Call) → length (added k (answer_of rows c k)) ≡ 17 * counted (answer_of rows c k).number k
unfolding answer_of
added_sized rows c k =
    let number = refusal_of rows c k in
    ap length (added_did number rows c k) ∙ length-flat (did number rows c k) ∙ ap (λ n. 17 * n) (length_did number rows c k)

pub length_trace : (rows : List ℕ) (c : Cursor) (ks : List Call) → length (trace rows c ks) ≡ total rows c ks
unfolding trace total answer_of
length_trace rows c [] = refl
length_trace rows c (k ∷ ks) =
    let number = refusal_of rows c k in
    let c₁ = (answer_of rows c k).cursor in
    length-append (did number rows c k) (trace rows c₁ ks) ∙ ap₂ ◌+◌ (length_did number rows c k) (length_trace rows c₁ ks)

-- a call from a level cursor leaves a level cursor, and its records are a chain between the two
call_chain : (number : ℕ) (rows : List ℕ) (c : Cursor) (k : Call) → refusal_of rows c k ≡ number → c.micro_pc.0 ≡ c.next_fetch.0
    → Chain rows c (map words (did number rows c k)) (settled number rows c k).cursor
unfolding did settled
call_chain zero rows c k e l =
    turns rows (turn k rows) (turn_honest k rows) (amount k) c (record { level = l; inside = accepted_inside rows c k e })
call_chain (suc number) rows c k e l = done

call_level : (number : ℕ) (rows : List ℕ) (c : Cursor) (k : Call) → refusal_of rows c k ≡ number → c.micro_pc.0 ≡ c.next_fetch.0
    → (settled number rows c k).cursor.micro_pc.0 ≡ (settled number rows c k).cursor.next_fetch.0
unfolding settled
call_level zero rows c k e l =
    turns_level rows (turn k rows) (turn_honest k rows) (amount k) c (record { level = l; inside = accepted_inside rows c k e })
call_level (suc number) rows c k e l = l

map-append : (rs ss : List CycleRecord) → map words (rs ++ ss) ≡ map words rs ++ map words ss
map-append [] ss = refl
map-append (r ∷ rs) ss = ap (λ k. words r ∷ k) (map-append rs ss)

pub calls_chain : (rows : List ℕ) (c : Cursor) (ks : List Call) → c.micro_pc.0 ≡ c.next_fetch.0
    → Chain rows c (map words (trace rows c ks)) (last rows c ks)
unfolding trace last answer_of
calls_chain rows c [] l = done
calls_chain rows c (k ∷ ks) l =
    let number = refusal_of rows c k in
    rw map-append
    (join (call_chain number rows c k refl l) (calls_chain rows (answer_of rows c k).cursor ks (call_level number rows c k refl l)))

-- ---- a call does as many cycles as it counts, none if it is refused

call_shows : (number : ℕ) (rows : List ℕ) (c : Cursor) (k : Call)
    → did number rows c k ≡ recorded (turn k rows) (counted (settled number rows c k).number k) c
unfolding did settled counted recorded
call_shows zero rows c k = refl
call_shows (suc number) rows c k = refl

call_ends : (number : ℕ) (rows : List ℕ) (c : Cursor) (k : Call)
    → (settled number rows c k).cursor ≡ end (turn k rows) (counted (settled number rows c k).number k) c
unfolding settled counted end
call_ends zero rows c k = refl
call_ends (suc number) rows c k = refl

module _ (rows : List ℕ) (c : Cursor) (k : Call) where
  pub adds : added k (answer_of rows c k) ≡ flat (recorded (turn k rows) (counted (answer_of rows c k).number k) c)
  unfolding answer_of
  adds = let number = refusal_of rows c k in added_did number rows c k ∙ ap flat (call_shows number rows c k)

  pub ends : (answer_of rows c k).cursor ≡ end (turn k rows) (counted (answer_of rows c k).number k) c
  unfolding answer_of
  ends = call_ends (refusal_of rows c k) rows c k

-- ---- a list of segment calls is one run of as many cycles as it counts

pub record OneRun (rows : List ℕ) (c : Cursor) (ks : List Call) : Type 0 where
  pub shows : trace rows c ks ≡ recorded (cycle rows) (total rows c ks) c
  pub stops : last rows c ks ≡ end (cycle rows) (total rows c ks) c

pub one_run : (rows : List ℕ) (c : Cursor) (ks : List Call) → segments ks ≡ true → OneRun rows c ks
unfolding trace total last segments is_segment answer_of turn recorded end
one_run rows c [] t = record { shows = refl; stops = refl }
one_run rows c (segment n b ∷ ks) t =
    let f = cycle rows in
    let number = refusal_of rows c (segment n b) in
    let c₁ = (settled number rows c (segment n b)).cursor in
    let m = counted (settled number rows c (segment n b)).number (segment n b) in
    let rest = one_run rows c₁ ks t in
    let e : c₁ ≡ end f m c = call_ends number rows c (segment n b) in
    let k = total rows c₁ ks in
    record {
      shows = ap₂ ◌++◌ (call_shows number rows c (segment n b)) (rest.shows ∙ ap (recorded f k) e) ∙ sym (recorded-add f m k c);
      stops = rest.stops ∙ ap (end f k) e ∙ sym (end-add f m k c);
    }
one_run rows c (padded n b ∷ ks) t = absurd (false≢true t)
