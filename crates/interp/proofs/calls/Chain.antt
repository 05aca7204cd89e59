-- A chain of honest cycles, and that the replay follows it: nothing here knows a cycle, a call or an arm. Assumes nothing.
use Rattle.std.proofs.Common.{◌≡◌, ℕ, zero, suc, ◌*◌, ◌<◌, Bool, true, false, cond, ◌&&◌, eqb, ltb, List, [], ◌∷◌, ◌++◌, map, length, get_or, drop, set, sym, refl, ap, ◌∙◌, arith, lt-ltb, eq-eqb}
use mathlib.Core.Bool.{and-eq-true_iff, false≢true}
use Rattle.std.specs.Simd.{first_chunks}
use Rattle.interp.specs.declared.Cursor.{Cursor}
use Rattle.interp.specs.declared.CycleRecord.{CycleRecord}
use Rattle.interp.specs.Machine.{row_at, words, flat}
use Rattle.interp.specs.Replay.{Replay, word, stored, reads, all, musts, fed, feed}
use Rattle.interp.proofs.cycle.Honest.{Honest}

-- ---- all tests of a list pass: each of them does

abbrev pub Each : List Bool → Type 0
Each [] = Unit {0}
Each (b ∷ bs) = (b ≡ true) × Each bs

all_pass : (bs : List Bool) → Each bs → all bs ≡ true
all_pass [] h = refl
all_pass (true ∷ bs) h = all_pass bs h.1
all_pass (false ∷ bs) h = h.0

pub each_pass : (bs : List Bool) → all bs ≡ true → Each bs
each_pass [] h = tt
each_pass (true ∷ bs) h = (refl, each_pass bs h)
each_pass (false ∷ bs) h = absurd (false≢true h)

-- ---- the chain

-- from c by the records rs to c'
pub data Chain (rows : List ℕ) : Cursor → List (List ℕ) → Cursor → Type 0 where
  done : {c : Cursor} → Chain rows c [] c
  more : {c c₁ c₂ : Cursor} {r : List ℕ} {rs : List (List ℕ)} → Honest rows c r c₁ → Chain rows c₁ rs c₂ → Chain rows c (r ∷ rs) c₂

pub join : {rows : List ℕ} {a b c : Cursor} {rs ss : List (List ℕ)} → Chain rows a rs b → Chain rows b ss c → Chain rows a (rs ++ ss) c
join done k = k
join (more h l) k = more h (join l k)

-- ---- the replay follows

-- the replay's state is the cursor's, but for cell 0
pub record Follows (s : Replay) (c : Cursor) : Type 0 where
  pub agrees : s.agrees ≡ true
  pub row : s.row ≡ c.next_fetch.0
  pub regs : drop 1 s.regs ≡ drop 1 c.regs
  pub ram : s.ram ≡ c.ram

-- lists that agree past cell 0 agree at any other cell, and after one store to both

pub get_or-past : (l m : List ℕ) (i : ℕ) → drop 1 l ≡ drop 1 m → 0 < i → get_or l i 0 ≡ get_or m i 0
get_or-past l m zero e h = absurd (omega arith)
get_or-past [] [] (suc i) e h = refl
get_or-past [] (y ∷ m) (suc i) e h = ap (λ k. get_or k i 0) e
get_or-past (x ∷ l) [] (suc i) e h = ap (λ k. get_or k i 0) e
get_or-past (x ∷ l) (y ∷ m) (suc i) e h = ap (λ k. get_or k i 0) e

set_past : (l m : List ℕ) (i v : ℕ) → drop 1 l ≡ drop 1 m → drop 1 (set l i v) ≡ drop 1 (set m i v)
set_past [] [] i v e = refl
set_past [] (y ∷ m) zero v e = e
set_past [] (y ∷ m) (suc i) v e = ap (λ k. set k i v) e
set_past (x ∷ l) [] zero v e = e
set_past (x ∷ l) [] (suc i) v e = ap (λ k. set k i v) e
set_past (x ∷ l) (y ∷ m) zero v e = e
set_past (x ∷ l) (y ∷ m) (suc i) v e = ap (λ k. set k i v) e

reads_holds : (l m : List ℕ) (x v : ℕ) → drop 1 l ≡ drop 1 m → v ≡ get_or m x 0 → reads l x v ≡ true
unfolding reads
reads_holds l m zero v e h = refl
reads_holds l m (suc x) v e h = go (ltb 0 (suc x) && ltb (suc x) 32)
  where
    go : (b : Bool) → cond b (eqb v (get_or l (suc x) 0)) true ≡ true
    go true = eq-eqb v (get_or l (suc x) 0) (h ∙ sym (get_or-past l m (suc x) e (omega arith)))
    go false = refl

-- one record: every must holds, and the replay follows on
module _ (rows : List ℕ) (s : Replay) (c c' : Cursor) (r : List ℕ) (f : Follows s c) (h : Honest rows c r c') where
  musts_hold : all (musts rows s r) ≡ true
  unfolding musts
  musts_hold =
      let row = row_at rows (word r 0) in
      let at = eq-eqb (word r 0) s.row (h.at ∙ sym f.row) in
      let first = reads_holds s.regs c.regs row.rs1 (word r 1) f.regs h.first in
      let second = reads_holds s.regs c.regs row.rs2 (word r 2) f.regs h.second in
      let ram = eq-eqb (word r 7) (get_or s.ram (word r 6) 0) (h.shown ∙ ap (λ l. get_or l (word r 6) 0) (sym f.ram)) in
      all_pass (musts rows s r)
      (at, (lt-ltb _ _ h.below, (lt-ltb _ _ h.written, (lt-ltb _ _ h.addr, (first, (second, (ram, tt)))))))

  fed-follows : Follows (fed rows s r) c'
  unfolding fed
  fed-follows =
      record {
        agrees = (and-eq-true_iff s.agrees (all (musts rows s r))).1 (f.agrees, musts_hold);
        row = h.next;
        regs = set_past s.regs c.regs (word r 5) (word r 3) f.regs ∙ sym h.regs;
        ram = ap (λ l. cond (stored r) (set l (word r 6) (word r 9)) l) f.ram ∙ sym h.ram;
      }

pub feed-follows : {rows : List ℕ} {c c' : Cursor} {rs : List (List ℕ)} (s : Replay) → Follows s c → Chain rows c rs c'
    → Follows (feed rows s rs) c'
unfolding feed
feed-follows s f done = f
feed-follows {rows = rows} s f (more {c = c} {c₁ = c₁} {r = r} h l) = feed-follows (fed rows s r) (fed-follows rows s c c₁ r f h) l

-- ---- the words of a log, cut into records again

pub length-flat : (rs : List CycleRecord) → length (flat rs) ≡ 17 * length rs
unfolding flat words
length-flat [] = refl
length-flat (r ∷ rs) = omega (arith, length-flat rs)

pub chunks-flat : (rs : List CycleRecord) → first_chunks 17 (length rs) (flat rs) ≡ map words rs
unfolding flat words
chunks-flat [] = refl
chunks-flat (r ∷ rs) = ap (λ k. words r ∷ k) (chunks-flat rs)
