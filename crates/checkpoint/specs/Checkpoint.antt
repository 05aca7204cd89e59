-- The same checkpoint (01, "Execute, sameness, program", as T-05 of 02 has it). Assumes nothing: these are definitions.
use Rattle.std.specs.Prelude.{ℕ, Bool, true, false, ◌&&◌, List, [], ◌∷◌, eqb}
use Rattle.std.specs.Bool.{beq}
use Rattle.interp.specs.declared.Cursor.{Cursor}
use Rattle.checkpoint.specs.declared.Checkpoint.{Checkpoint}

-- two lists of words agree: they have the same words, and as many
unfoldable pub agree : List ℕ → List ℕ → Bool
agree [] [] = true
agree [] (y ∷ ys) = false
agree (x ∷ xs) [] = false
agree (x ∷ xs) (y ∷ ys) = eqb x y && agree xs ys

-- two cursors are the same checkpoint: every field but cycles agrees
unfoldable pub same_of : Cursor → Cursor → Bool
same_of a b =
    eqb a.micro_pc.0 b.micro_pc.0
    && beq a.halted b.halted
    && eqb a.output b.output
    && eqb a.next_fetch.0 b.next_fetch.0
    && agree a.regs b.regs
    && agree a.ram b.ram

-- the cursor at a checkpoint, with its count of cycles, which is no part of it, put to 0
unfoldable pub cursor_at : Checkpoint → Cursor
cursor_at c =
    record {
      regs = c.regs.now;
      ram = c.ram.now;
      micro_pc = c.micro_pc;
      cycles = 0;
      halted = c.halted;
      output = c.output;
      next_fetch = c.next_fetch;
    }
