-- A log that passes the replay shows of each register and RAM word what was last written there, and the replay ends with the
-- latest writes: nothing here knows the machine. Assumes nothing.
use Rattle.std.proofs.Common.{◌≡◌, ℕ, zero, suc, ◌<◌, ◌≤◌, Bool, true, false, cond, ◌≢◌, List, [], ◌∷◌, length, get_or, take, set, sym, refl, ap, ◌∙◌, arith, length-append, length-set, length-take, get_or-set_other, get_or-set_same, ltb-true, lt-ltb, eqb-true}
use mathlib.Core.Bool.{and-eq-true_iff}
use lib.ListN.{length-replicate, get_or-replicate}
use lib.Seq.{take-length}
use Rattle.interp.specs.Machine.{loaded}
use Rattle.interp.specs.Replay.{Replay, fresh, word, stored, reads, all, musts, fed, feed}
use Rattle.interp.specs.Demand3.{Latest, LatestStore, Reads}
use Rattle.interp.proofs.calls.Chain.{each_pass}

-- ---- what record k must, at the state that the records before it leave

feed_agreed : (rows : List ℕ) (s : Replay) (rs : List (List ℕ)) → (feed rows s rs).agrees ≡ true → s.agrees ≡ true
unfolding feed fed
feed_agreed rows s [] t = t
feed_agreed rows s (r ∷ rs) t = ((and-eq-true_iff s.agrees (all (musts rows s r))).0 (feed_agreed rows (fed rows s r) rs t)).0

must_at : (rows : List ℕ) (s : Replay) (rs : List (List ℕ)) → (feed rows s rs).agrees ≡ true → (k : ℕ) → k < length rs
    → all (musts rows (feed rows s (take k rs)) (get_or rs k [])) ≡ true
unfolding feed fed
must_at rows s [] t k h = absurd (omega arith)
must_at rows s (r ∷ rs) t zero h = ((and-eq-true_iff s.agrees (all (musts rows s r))).0 (feed_agreed rows (fed rows s r) rs t)).1
must_at rows s (r ∷ rs) t (suc k) h = must_at rows (fed rows s r) rs t k (omega arith)

-- ---- a memory of which each record may write one cell: whether it does, and which words say where and what

unfoldable put : (List ℕ → Bool) → ℕ → ℕ → List ℕ → List ℕ → List ℕ
put does to what cells r = cond (does r) (set cells (word r to) (word r what)) cells

unfoldable puts : (List ℕ → Bool) → ℕ → ℕ → List ℕ → List (List ℕ) → List ℕ
puts does to what cells [] = cells
puts does to what cells (r ∷ rs) = puts does to what (put does to what cells r) rs

module _ (does : List ℕ → Bool) (to what : ℕ) where
  put-length : (cells r : List ℕ) → length (put does to what cells r) ≡ length cells
  unfolding put
  put-length cells r = go (does r)
    where
      go : (b : Bool) → length (cond b (set cells (word r to) (word r what)) cells) ≡ length cells
      go true = length-set cells (word r to) (word r what)
      go false = refl

  put_other : (cells r : List ℕ) (x : ℕ) → (does r ≡ true → word r to ≢ x) → get_or (put does to what cells r) x 0 ≡ get_or cells x 0
  unfolding put
  put_other cells r x h = go (does r) h
    where
      go : (b : Bool) → (b ≡ true → word r to ≢ x) → get_or (cond b (set cells (word r to) (word r what)) cells) x 0 ≡ get_or cells x 0
      go true n = get_or-set_other cells (word r to) x (word r what) 0 (λ e. n refl (sym e))
      go false n = refl

  put_same : (cells r : List ℕ) (x : ℕ) → x < length cells → does r ≡ true → word r to ≡ x → get_or (put does to what cells r) x 0 ≡ word r what
  unfolding put
  put_same cells r x b t e = rw (t, ← e) (get_or-set_same cells (word r to) (word r what) 0 (rw e b))

  -- the first k records leave cell x alone
  kept : (cells : List ℕ) (rs : List (List ℕ)) (k x : ℕ) → k ≤ length rs
      → ((j : ℕ) → j < k → does (get_or rs j []) ≡ true → word (get_or rs j []) to ≢ x)
      → get_or (puts does to what cells (take k rs)) x 0 ≡ get_or cells x 0
  unfolding puts
  kept cells rs zero x l h = refl
  kept cells [] (suc k) x l h = refl
  kept cells (r ∷ rs) (suc k) x l h =
      kept (put does to what cells r) rs k x (omega arith) (λ j b. h (suc j) (omega arith)) ∙ put_other cells r x (h 0 (omega arith))

  -- of the first k records, the i-th is the latest that writes cell x
  written : (cells : List ℕ) (rs : List (List ℕ)) (k x i : ℕ) → x < length cells → k ≤ length rs → i < k
      → does (get_or rs i []) ≡ true → word (get_or rs i []) to ≡ x
      → ((j : ℕ) → i < j → j < k → does (get_or rs j []) ≡ true → word (get_or rs j []) to ≢ x)
      → get_or (puts does to what cells (take k rs)) x 0 ≡ word (get_or rs i []) what
  unfolding puts
  written cells rs zero x i b l h t e n = absurd (omega arith)
  written cells [] (suc k) x i b l h t e n = absurd (omega arith)
  written cells (r ∷ rs) (suc k) x zero b l h t e n =
      kept (put does to what cells r) rs k x (omega arith) (λ j d. n (suc j) (omega arith) (omega arith)) ∙ put_same cells r x b t e
  written cells (r ∷ rs) (suc k) x (suc i) b l h t e n =
      written (put does to what cells r) rs k x i (rw put-length b) (omega arith) (omega arith) t e
      (λ j p q. n (suc j) (omega arith) (omega arith))

-- the replay's registers and RAM are such memories

always : List ℕ → Bool
always r = true

feed-regs : (rows : List ℕ) (s : Replay) (rs : List (List ℕ)) → (feed rows s rs).regs ≡ puts always 5 3 s.regs rs
unfolding feed fed puts put always
feed-regs rows s [] = refl
feed-regs rows s (r ∷ rs) = feed-regs rows (fed rows s r) rs

feed-ram : (rows : List ℕ) (s : Replay) (rs : List (List ℕ)) → (feed rows s rs).ram ≡ puts stored 6 9 s.ram rs
unfolding feed fed puts put
feed-ram rows s [] = refl
feed-ram rows s (r ∷ rs) = feed-ram rows (fed rows s r) rs

length-loaded : (input : List ℕ) → length (loaded input) ≡ 256
unfolding loaded
length-loaded input = simp (length-take, length-append, length-replicate) (omega arith)

-- ---- so what the replay holds after k records is the latest write

module _ (rows input : List ℕ) (rs : List (List ℕ)) where
  module _ (k : ℕ) (inside : k ≤ length rs) where
    latest : (x v : ℕ) → x < 64 → v ≡ get_or (feed rows (fresh input) (take k rs)).regs x 0 → Latest rs k x v
    unfolding fresh always
    latest x v q e =
        let regs = (fresh input).regs in
        let f = e ∙ ap (λ l. get_or l x 0) (feed-regs rows (fresh input) (take k rs)) in
        record {
          wrote = λ i b w n. f ∙ written always 5 3 regs rs k x i (rw length-replicate q) inside b refl w (λ j p r t. n j p r);
          never = λ n. f ∙ kept always 5 3 regs rs k x inside (λ j p t. n j p) ∙ get_or-replicate 64 x 0 0 q;
        }

    latest_store : (x v : ℕ) → x < 256 → v ≡ get_or (feed rows (fresh input) (take k rs)).ram x 0 → LatestStore input rs k x v
    unfolding fresh
    latest_store x v q e =
        let ram = (fresh input).ram in
        let f = e ∙ ap (λ l. get_or l x 0) (feed-ram rows (fresh input) (take k rs)) in
        record {
          wrote = λ i h t w n. f ∙ written stored 6 9 ram rs k x i (rw length-loaded q) inside h t w n;
          never = λ n. f ∙ kept stored 6 9 ram rs k x inside n;
        }

  -- at the end
  module _ (x v : ℕ) where
    pub last-write : x < 64 → v ≡ get_or (feed rows (fresh input) rs).regs x 0 → Latest rs (length rs) x v
    last-write q e = latest (length rs) (omega arith) x v q (rw take-length e)

    pub last-store : x < 256 → v ≡ get_or (feed rows (fresh input) rs).ram x 0 → LatestStore input rs (length rs) x v
    last-store q e = latest_store (length rs) (omega arith) x v q (rw take-length e)

-- ---- and a read that passes is of the latest write

read_is : (l : List ℕ) (x v : ℕ) → 0 < x → x < 32 → reads l x v ≡ true → v ≡ get_or l x 0
unfolding reads
read_is l x v p q t = eqb-true v (get_or l x 0) (rw (lt-ltb 0 x p, lt-ltb x 32 q) at t)

pub shows : (rows input : List ℕ) (rs : List (List ℕ)) → (feed rows (fresh input) rs).agrees ≡ true → (k : ℕ) → k < length rs
    → Reads rows input rs k
unfolding musts
shows rows input rs agreed k h =
    let s = feed rows (fresh input) (take k rs) in
    let inside : k ≤ length rs = omega arith in
    let t = each_pass (musts rows s (get_or rs k [])) (must_at rows (fresh input) rs agreed k h) in
    record {
      register = ltb-true _ _ t.1.1.0;
      address = ltb-true _ _ t.1.1.1.0;
      first = λ p q. latest rows input rs k inside _ _ (omega arith) (read_is s.regs _ _ p q t.1.1.1.1.0);
      second = λ p q. latest rows input rs k inside _ _ (omega arith) (read_is s.regs _ _ p q t.1.1.1.1.1.0);
      ram = latest_store rows input rs k inside _ _ (ltb-true _ _ t.1.1.1.0) (eqb-true _ _ t.1.1.1.1.1.1.0);
    }
