-- What is claimed of images and of lists of calls through the C interface. The function `image_laws` of src/lib.rt has the
-- whole for its contract. Assumes nothing: these are definitions.
use Rattle.std.specs.Prelude.{◌≡◌, true, false, List, [], ◌∷◌, ◌++◌, ℕ, ◌≤◌, length, get_or}
use Rattle.interp.specs.declared.Cursor.{Cursor}
use Rattle.interp.specs.Machine.{start_of}
use Rattle.interp.specs.Calls.{Call, answer_of, added, last, log}
use Rattle.interp.specs.Execute.{execute_of}
use Rattle.checkpoint.specs.Claims.{MadeAlike, numbers, meets_5}
use Rattle.magnetar_cpu.specs.Image.{image_words, cursor_of, image_of, image_after, same_images}

-- ---- a list of C calls, each of which gets the image that the one before left

-- the last image
unfoldable pub last_image : List ℕ → List ℕ → List Call → List ℕ
last_image rows image [] = image
last_image rows image (k ∷ ks) = last_image rows (image_after (answer_of rows (cursor_of image) k) image) ks

-- the joined log
unfoldable pub image_log : List ℕ → List ℕ → List Call → List ℕ
image_log rows image [] = []
image_log rows image (k ∷ ks) =
    added k (answer_of rows (cursor_of image) k) ++ image_log rows (image_after (answer_of rows (cursor_of image) k) image) ks

-- the numbers that the calls return
unfoldable pub image_numbers : List ℕ → List ℕ → List Call → List ℕ
image_numbers rows image [] = []
image_numbers rows image (k ∷ ks) =
    (answer_of rows (cursor_of image) k).number ∷ image_numbers rows (image_after (answer_of rows (cursor_of image) k) image) ks

-- ---- what is claimed

-- the cursor c is kept by its image: as many words as are lent for it, and they are read back as c
pub record Kept (c : Cursor) : Type 0 where
  pub sized : length (image_of c) ≡ image_words
  pub read_back : cursor_of (image_of c) ≡ c

-- the C calls js from image a and ks from image b get the same refusals and equal logs, and the last images are the same
pub record ImagesAlongside (rows a b : List ℕ) (js ks : List Call) : Type 0 where
  pub refusals : image_numbers rows a js ≡ image_numbers rows b ks
  pub logs : image_log rows a js ≡ image_log rows b ks
  pub same : same_images (last_image rows a js) (last_image rows b ks) ≡ true

-- the contract of `image_laws`
pub record ImageLaws : Type 0 where
  -- of every cursor with 64 registers and 256 words of RAM
  pub kept : (c : Cursor) → length c.regs ≡ 64 → length c.ram ≡ 256 → Kept c
  -- of the fresh cursor, and of what execute hands back
  pub start : (input : List ℕ) → Kept (start_of input)
  pub executed : (rows input : List ℕ) (max : ℕ) (buffer : List ℕ) → Kept (execute_of rows input max buffer).cursor
  -- an image whose halted word is 0 or 1 is the image of its cursor
  pub written_back : (image : List ℕ) → length image ≡ image_words → get_or image 322 0 ≤ 1 → image_of (cursor_of image) ≡ image
  -- a list of C calls from any image has the last cursor, the log and the numbers of the same calls on cursors
  pub cursors : (rows image : List ℕ) (calls : List Call) → length image ≡ image_words
      → cursor_of (last_image rows image calls) ≡ last rows (cursor_of image) calls
  pub logs : (rows image : List ℕ) (calls : List Call) → length image ≡ image_words
      → image_log rows image calls ≡ log rows (cursor_of image) calls
  pub refusals : (rows image : List ℕ) (calls : List Call) → length image ≡ image_words
      → image_numbers rows image calls ≡ numbers rows (cursor_of image) calls
  -- from the image of `magnetar_start` on these are the cursor and the log of demand 3
  pub started_cursor : (rows input : List ℕ) (calls : List Call)
      → cursor_of (last_image rows (image_of (start_of input)) calls) ≡ last rows (start_of input) calls
  pub started_log : (rows input : List ℕ) (calls : List Call)
      → image_log rows (image_of (start_of input)) calls ≡ log rows (start_of input) calls
  -- of any two images that are the same, and every list of C calls made alike on both, in which neither meets refusal 5
  pub alongside : (rows a b : List ℕ) (js ks : List Call) → length a ≡ image_words → length b ≡ image_words → same_images a b ≡ true
      → MadeAlike js ks → meets_5 (image_numbers rows a js) ≡ false → meets_5 (image_numbers rows b ks) ≡ false
      → ImagesAlongside rows a b js ks
