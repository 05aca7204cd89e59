-- A cursor's image in words: registers at 0 to 63, RAM at 64 to 319, and then its numbers. Assumes nothing: these are
-- definitions.
use Rattle.std.specs.Prelude.{ℕ, Bool, not, List, [], ◌∷◌, ◌++◌, eqb, take, drop, get_or}
use Rattle.interp.specs.declared.Cursor.{Cursor}
use Rattle.interp.specs.Values.{bool_word}
use Rattle.interp.specs.Machine.{at}
use Rattle.interp.specs.Calls.{Answered}
use Rattle.interp.specs.Execute.{Executed}
use Rattle.checkpoint.specs.Checkpoint.{same_of}
use Rattle.magnetar_cpu.specs.Words.{left_after}

-- the words of an image
abbrev pub image_words : ℕ
image_words = 325

-- the cursor that an image stands for; any halted word but 0 is a halted machine
unfoldable pub cursor_of : List ℕ → Cursor
cursor_of image =
    record {
      regs = take 64 image;
      ram = take 256 (drop 64 image);
      micro_pc = at (get_or image 320 0);
      cycles = get_or image 321 0;
      halted = not (eqb (get_or image 322 0) 0);
      output = get_or image 323 0;
      next_fetch = at (get_or image 324 0);
    }

-- the numbers of a cursor; the halted word is 0 or 1
abbrev pub numbers_of : Cursor → List ℕ
numbers_of c = c.micro_pc.0 ∷ c.cycles ∷ bool_word c.halted ∷ c.output ∷ c.next_fetch.0 ∷ []

-- the image of a cursor
unfoldable pub image_of : Cursor → List ℕ
image_of c = c.regs ++ c.ram ++ numbers_of c

-- two images are the same checkpoint: the cursors are that they stand for
abbrev pub same_images : List ℕ → List ℕ → Bool
same_images a b = same_of (cursor_of a) (cursor_of b)

-- an image after a call with this answer: the answer's cursor, or after a refusal the image as it was
abbrev pub image_after : Answered → List ℕ → List ℕ
image_after answer image = left_after answer.number (image_of answer.cursor) image

-- the same of an execution
abbrev pub executed_image : Executed → List ℕ → List ℕ
executed_image answer image = left_after answer.number (image_of answer.cursor) image
