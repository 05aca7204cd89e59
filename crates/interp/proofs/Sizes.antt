-- Registers and RAM keep their sizes: in every cycle, in every call. Assumes nothing.
use Rattle.std.proofs.Common.{◌≡◌, ℕ, zero, suc, Bool, true, false, cond, List, [], length, set, refl, ◌∙◌, arith, length-append, length-set, length-take}
use lib.ListN.{length-replicate}
use Rattle.interp.specs.declared.Cursor.{Cursor}
use Rattle.interp.specs.declared.effect.Effect.{Effect}
use Rattle.std.specs.Prelude.{Option, Some, None}
use Rattle.interp.specs.Machine.{loaded, start_of}
use Rattle.interp.specs.Cycle.{Step, scratched, regs_after, stores, ram_after, commit, step_at, live, frozen_at, padding, cycle}
use Rattle.interp.specs.Calls.{end, Call, segment, padded, amount, turn, refusal_of, settled, answer_of}
use Rattle.interp.specs.Execute.{executed, execution_for, execute_of}
use Rattle.interp.specs.Laws.{Sized}

-- ---- a cycle

scratched_size : (x : Option ℕ) (regs : List ℕ) → length (scratched x regs) ≡ length regs
unfolding scratched
scratched_size None regs = refl
scratched_size (Some v) regs = length-set regs 0 v

regs_size : (e : Effect) (regs : List ℕ) → length (regs_after e regs) ≡ length regs
unfolding regs_after
regs_size e regs = length-set regs e.write.rd e.write.rd_val

choice_size : (b : Bool) (x y : List ℕ) → length x ≡ length y → length (cond b x y) ≡ length y
choice_size true x y h = h
choice_size false x y h = refl

ram_size : (e : Effect) (ram : List ℕ) → length (ram_after e ram) ≡ length ram
unfolding ram_after
ram_size e ram =
    choice_size (stores e.shown.flags) (set ram e.access.ram_addr e.access.ram_new) ram (length-set ram _ _)

pub live_sized : (rows : List ℕ) (c : Cursor) → Sized c → Sized (live rows c).after
unfolding live step_at commit
live_sized rows c s =
    record { regs = scratched_size _ (regs_after _ c.regs) ∙ regs_size _ c.regs ∙ s.regs; ram = ram_size _ c.ram ∙ s.ram }

pub padding_sized : (rows : List ℕ) (c : Cursor) → Sized c → Sized (padding rows c).after
unfolding padding frozen_at
padding_sized rows c s = record { regs = regs_size _ c.regs ∙ s.regs; ram = ram_size _ c.ram ∙ s.ram }

choice_sized : (b : Bool) (x y : Step) → Sized x.after → Sized y.after → Sized (cond b x y).after
choice_sized true x y hx hy = hx
choice_sized false x y hx hy = hy

pub cycle-sized : (rows : List ℕ) (c : Cursor) → Sized c → Sized (cycle rows c).after
unfolding cycle
cycle-sized rows c s = choice_sized c.halted (padding rows c) (live rows c) (padding_sized rows c s) (live_sized rows c s)

-- ---- the calls

pub end-sized : (f : Cursor → Step) → ((c : Cursor) → Sized c → Sized (f c).after) → (n : ℕ) (c : Cursor) → Sized c → Sized (end f n c)
unfolding end
end-sized f h zero c s = s
end-sized f h (suc n) c s = end-sized f h n (f c).after (h c s)

pub start_sized : (input : List ℕ) → Sized (start_of input)
unfolding start_of loaded
start_sized input =
    record { regs = length-replicate {A = ℕ} 64 0; ram = simp (length-take, length-append, length-replicate) (omega arith) }

turn-sized : (k : Call) (rows : List ℕ) (c : Cursor) → Sized c → Sized (turn k rows c).after
unfolding turn
turn-sized (segment n buffer) rows c s = cycle-sized rows c s
turn-sized (padded n buffer) rows c s = padding_sized rows c s

settled-sized : (number : ℕ) (rows : List ℕ) (c : Cursor) (k : Call) → Sized c → Sized (settled number rows c k).cursor
unfolding settled
settled-sized zero rows c k s = end-sized (turn k rows) (turn-sized k rows) (amount k) c s
settled-sized (suc number) rows c k s = s

pub answer_sized : (rows : List ℕ) (c : Cursor) (k : Call) → Sized c → Sized (answer_of rows c k).cursor
unfolding answer_of
answer_sized rows c k s = settled-sized (refusal_of rows c k) rows c k s

execution_for-sized : (number : ℕ) (rows input : List ℕ) (max : ℕ) (buffer : List ℕ) → Sized (execution_for number rows input max buffer).cursor
unfolding execution_for executed
execution_for-sized zero rows input max buffer =
    end-sized (padding rows) (padding_sized rows) _ _ (end-sized (live rows) (live_sized rows) _ _ (start_sized input))
execution_for-sized (suc number) rows input max buffer = start_sized []

pub execute_sized : (rows input : List ℕ) (max : ℕ) (buffer : List ℕ) → Sized (execute_of rows input max buffer).cursor
unfolding execute_of
execute_sized rows input max buffer = execution_for-sized _ rows input max buffer
