-- What is claimed of the same checkpoint beyond the text of its definition. The functions `same_exactly` and `same_goes_on` of
-- src/lib.rt have `Exact` and `GoesOn` for their contracts. Assumes nothing: these are definitions.
use Rattle.std.specs.Prelude.{◌≡◌, ℕ, Bool, true, false, List, [], ◌∷◌, length, map, ◌==◌}
use Rattle.std.specs.List.{list_any}
use Rattle.interp.specs.declared.Cursor.{Cursor}
use Rattle.interp.specs.Calls.{Call, is_segment, amount, lent, answer_of, log, last}
use Rattle.checkpoint.specs.Checkpoint.{same_of}

-- ---- what the same means

-- every cursor field but cycles agrees
pub record Same (a b : Cursor) : Type 0 where
  pub micro_pc : a.micro_pc ≡ b.micro_pc
  pub halted : a.halted ≡ b.halted
  pub output : a.output ≡ b.output
  pub next_fetch : a.next_fetch ≡ b.next_fetch
  pub regs : a.regs ≡ b.regs
  pub ram : a.ram ≡ b.ram

-- `same_of` says so exactly, and is an equivalence
pub record Exact : Type 0 where
  pub only : (a b : Cursor) → same_of a b ≡ true → Same a b
  pub if : (a b : Cursor) → Same a b → same_of a b ≡ true
  pub reflexive : (a : Cursor) → same_of a a ≡ true
  pub symmetric : (a b : Cursor) → same_of a b ≡ true → same_of b a ≡ true
  pub transitive : (a b c : Cursor) → same_of a b ≡ true → same_of b c ≡ true → same_of a c ≡ true

-- ---- what a user may rely on

-- how a call is made: as a segment call or as a padding call, its length, and its buffer's size
pub record Made : Type 0 where
  pub seg : Bool
  pub length_asked : ℕ
  pub buffer_size : ℕ

unfoldable pub made : Call → Made
made k = record { seg = is_segment k; length_asked = amount k; buffer_size = length (lent k) }

-- two lists of calls are made alike: one by one in the same way, whatever their buffers hold
abbrev pub MadeAlike : List Call → List Call → Type 0
MadeAlike js ks = map made js ≡ map made ks

-- the numbers that a list of calls returns, from a cursor on: 0 is accepted
unfoldable pub numbers : List ℕ → Cursor → List Call → List ℕ
numbers rows c [] = []
numbers rows c (k ∷ ks) = (answer_of rows c k).number ∷ numbers rows (answer_of rows c k).cursor ks

-- whether refusal 5 is among the numbers
abbrev pub meets_5 : List ℕ → Bool
meets_5 numbers = list_any (λ n. n == 5) numbers

-- the calls js from a and ks from b get the same refusals and equal logs, and the last cursors are the same
pub record Alongside (rows : List ℕ) (a b : Cursor) (js ks : List Call) : Type 0 where
  pub refusals : numbers rows a js ≡ numbers rows b ks
  pub logs : log rows a js ≡ log rows b ks
  pub same : same_of (last rows a js) (last rows b ks) ≡ true

-- of any two cursors that are the same, on one ROM, and every list of calls made alike on both, in which neither meets refusal 5
pub record GoesOn : Type 0 where
  pub alongside : (rows : List ℕ) (a b : Cursor) (js ks : List Call) → same_of a b ≡ true → MadeAlike js ks
      → meets_5 (numbers rows a js) ≡ false → meets_5 (numbers rows b ks) ≡ false → Alongside rows a b js ks
