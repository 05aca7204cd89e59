-- The loops of the calls in plain antt: what holds after i cycles, and that one more cycle keeps it. Assumes nothing.
use Rattle.std.proofs.Common.{◌≡◌, ℕ, ◌+◌, ◌*◌, ◌^◌, ◌<◌, ◌≤◌, List, ◌++◌, length, take, drop, sym, ap, ◌∙◌, arith, length-append, length-drop}
use Rattle.interp.specs.declared.Cursor.{Cursor}
use Rattle.interp.specs.Machine.{words, flat}
use Rattle.interp.specs.Cycle.{Step}
use Rattle.interp.specs.Calls.{recorded, end}
use Rattle.interp.proofs.calls.Runs.{end-suc, length-words, buffer-suc}

-- after i of n cycles, each a step f: the cursor, and the record buffer
pub record Going (f : Cursor → Step) (n : ℕ) (records₀ : List ℕ) (c₀ : Cursor) (records : List ℕ) (c : Cursor) (i : ℕ) : Type 0 where
  pub state : c ≡ end f i c₀
  pub log : records ≡ flat (recorded f i c₀) ++ drop (17 * i) records₀
  pub long : length records ≡ length records₀
  pub upto : i ≤ n
  pub room : 17 * n ≤ length records₀
  pub small : length records₀ * 8 < 2 ^ 63

-- a step f, whose words came back into their part of the buffer
pub going_on : (f : Cursor → Step) (n : ℕ) (records₀ : List ℕ) (c₀ : Cursor) (records : List ℕ) (c : Cursor) (i : ℕ)
    → Going f n records₀ c₀ records c i → i < n
    → (records' : List ℕ) (c' : Cursor) → c' ≡ (f c).after
    → records' ≡ take (17 * i) records ++ (words (f c).shown ++ drop 17 (drop (17 * i) records))
    → Going f n records₀ c₀ records' c' (i + 1)
going_on f n records₀ c₀ records c i g lt records' c' ec er =
    let log' : records' ≡ flat (recorded f (i + 1) c₀) ++ drop (17 * (i + 1)) records₀ =
    er
    ∙ ap (λ (d : Cursor). take (17 * i) records ++ (words (f d).shown ++ drop 17 (drop (17 * i) records))) g.state
    ∙ ap (λ (l : List ℕ). take (17 * i) l ++ (words (f (end f i c₀)).shown ++ drop 17 (drop (17 * i) l))) g.log
    ∙ buffer-suc f i c₀ records₀ in
    record {
      state = ec ∙ ap (λ (d : Cursor). (f d).after) g.state ∙ sym (end-suc f i c₀);
      log = log';
      long = omega (arith, simp (length-append, length-drop, length-words) at (ap length log'));
      upto = omega arith;
      room = g.room;
      small = g.small;
    }
