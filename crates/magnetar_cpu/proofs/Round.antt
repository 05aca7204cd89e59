-- An image is read back as the cursor that it was written for, so calls by images are calls by cursors. Assumes nothing.
use mathlib.Core.Path.{◌≡◌, refl, sym, ap, ap₂, subst, ◌∙◌}
use mathlib.Core.Bool.{Bool, true, false, not}
use mathlib.Core.List.{List, [], ◌∷◌, ◌++◌}
use Prim.Native.Nat.{ℕ, zero, suc, ◌+◌, ◌-◌, ◌≤◌}
use native.Mathlib.Omega.{arith}
use lib.Dec.{eqb, eqb-suc-zero}
use lib.ListN.{length, take, drop, get_or, length-append, length-take, length-drop, take-append-drop, drop_of_length-le}
use lib.Seq.{take-append-le, drop-append-le, get_or-append-add, drop-cons, take-add, take_at, drop_at}
use Rattle.interp.specs.declared.Cursor.{Cursor}
use Rattle.interp.specs.Values.{bool_word}
use Rattle.interp.specs.Machine.{start_of}
use Rattle.interp.specs.Calls.{Call, refusal_of, settled, answer_of, added, last, log}
use Rattle.interp.specs.Laws.{Sized}
use Rattle.interp.proofs.Above.{laws}
use Rattle.checkpoint.specs.Checkpoint.{same_of}
use Rattle.checkpoint.specs.Claims.{MadeAlike, numbers, meets_5}
use Rattle.checkpoint.proofs.Alongside.{goes_on}
use Rattle.magnetar_cpu.specs.Image.{image_words, cursor_of, numbers_of, image_of, same_images, image_after}
use Rattle.magnetar_cpu.specs.Claims.{last_image, image_log, image_numbers, ImagesAlongside, Kept, ImageLaws}

-- ---- a cursor through its image

word_back : (b : Bool) → not (eqb (bool_word b) 0) ≡ b
word_back true = refl
word_back false = refl

module _ (c : Cursor) (s : Sized c) where
  abbrev cells : List ℕ
  cells = c.regs ++ c.ram

  cells_size : length cells ≡ 320
  cells_size = length-append c.regs c.ram ∙ omega arith

  registers : take 64 (image_of c) ≡ c.regs
  unfolding image_of
  registers = take-append-le 64 cells (numbers_of c) (omega (arith, cells_size)) ∙ take_at c.regs c.ram 64 s.regs

  ram_words : take 256 (drop 64 (image_of c)) ≡ c.ram
  unfolding image_of
  ram_words =
      ap (take 256) (drop-append-le 64 cells (numbers_of c) (omega (arith, cells_size)) ∙ ap (λ (l : List ℕ). l ++ numbers_of c) (drop_at c.regs c.ram 64 s.regs))
      ∙ take_at c.ram (numbers_of c) 256 s.ram

  number_at : (i : ℕ) → get_or (image_of c) (320 + i) 0 ≡ get_or (numbers_of c) i 0
  unfolding image_of
  number_at i = ap (λ (n : ℕ). get_or (cells ++ numbers_of c) (n + i) 0) (sym cells_size) ∙ get_or-append-add cells (numbers_of c) i 0

  image_size : length (image_of c) ≡ image_words
  unfolding image_of
  image_size = length-append cells (numbers_of c) ∙ omega (arith, cells_size)

  read_back : cursor_of (image_of c) ≡ c
  unfolding cursor_of
  read_back = rw (registers, ram_words, number_at 0, number_at 1, number_at 2, number_at 3, number_at 4, word_back) refl

  kept-sized : Kept c
  kept-sized = record { sized = image_size; read_back = read_back }

-- ---- an image through its cursor

bit_back : (w : ℕ) → w ≤ 1 → bool_word (not (eqb w 0)) ≡ w
bit_back zero h = refl
bit_back (suc zero) h = refl
bit_back (suc (suc w)) h = absurd (omega arith)

-- k words from place j on
abbrev words_from : ℕ → ℕ → List ℕ → List ℕ
words_from zero j image = []
words_from (suc k) j image = get_or image j 0 ∷ words_from k (suc j) image

last-words : (k j : ℕ) (image : List ℕ) → length image ≡ j + k → drop j image ≡ words_from k j image
last-words zero j image h = drop_of_length-le image {i = j} (omega arith)
last-words (suc k) j image h =
    drop-cons image j 0 (omega arith) ∙ ap (λ l. get_or image j 0 ∷ l) (last-words k (suc j) image (omega arith))

image_sized : (image : List ℕ) → length image ≡ image_words → Sized (cursor_of image)
unfolding cursor_of
image_sized image h = record { regs = simp length-take (omega arith); ram = simp (length-take, length-drop) (omega arith) }

written_back : (image : List ℕ) → length image ≡ image_words → get_or image 322 0 ≤ 1 → image_of (cursor_of image) ≡ image
unfolding cursor_of image_of
written_back image h halted =
    let numbers = image_words - 320 in
    rw (bit_back (get_or image 322 0) halted)
    (ap (λ (l : List ℕ). l ++ words_from numbers 320 image) (sym (take-add 64 256 image))
    ∙ ap (λ (l : List ℕ). take 320 image ++ l) (sym (last-words numbers 320 image h))
    ∙ take-append-drop 320 image)

-- ---- a call

-- the image that a call leaves has its words and stands for the cursor that the call returns
record Left (image : List ℕ) (c : Cursor) : Type 0 where
  size : length image ≡ image_words
  stands : cursor_of image ≡ c

settled-left : (number : ℕ) (rows image : List ℕ) (k : Call) → length image ≡ image_words → Sized (settled number rows (cursor_of image) k).cursor
    → Left (image_after (settled number rows (cursor_of image) k) image) (settled number rows (cursor_of image) k).cursor
unfolding settled
settled-left zero rows image k h s = let kept = kept-sized _ s in record { size = kept.sized; stands = kept.read_back }
settled-left (suc number) rows image k h s = rw (eqb-suc-zero number) (record { size = h; stands = refl })

left : (rows image : List ℕ) (k : Call) → length image ≡ image_words
    → Left (image_after (answer_of rows (cursor_of image) k) image) (answer_of rows (cursor_of image) k).cursor
left rows image k h =
    let s = laws.answer_sized rows (cursor_of image) k (image_sized image h) in
    unfold answer_of in settled-left (refusal_of rows (cursor_of image) k) rows image k h s

-- ---- a list of calls

-- from an image the calls ks go as from the cursor c: the last image stands for the last cursor, and logs and numbers are equal
record Follows (rows image : List ℕ) (c : Cursor) (ks : List Call) : Type 0 where
  cursors : cursor_of (last_image rows image ks) ≡ last rows c ks
  logs : image_log rows image ks ≡ log rows c ks
  refusals : image_numbers rows image ks ≡ numbers rows c ks

follows : (rows image : List ℕ) (ks : List Call) → length image ≡ image_words → Follows rows image (cursor_of image) ks
unfolding last_image image_log image_numbers last log numbers
follows rows image [] h = record { cursors = refl; logs = refl; refusals = refl }
follows rows image (k ∷ ks) h =
    let a = answer_of rows (cursor_of image) k in
    let l = left rows image k h in
    let later : Follows rows (image_after a image) a.cursor ks =
    subst (λ c. Follows rows (image_after a image) c ks) l.stands (follows rows (image_after a image) ks l.size) in
    record {
      cursors = later.cursors;
      logs = ap (λ r. added k a ++ r) later.logs;
      refusals = ap (λ r. a.number ∷ r) later.refusals;
    }

start_kept : (input : List ℕ) → Kept (start_of input)
start_kept input = kept-sized (start_of input) (laws.start_sized input)

started : (rows input : List ℕ) (ks : List Call) → Follows rows (image_of (start_of input)) (start_of input) ks
started rows input ks =
    let image = image_of (start_of input) in
    let kept = start_kept input in
    subst (λ c. Follows rows image c ks) kept.read_back (follows rows image ks kept.sized)

alongside : (rows a b : List ℕ) (js ks : List Call) → length a ≡ image_words → length b ≡ image_words → same_images a b ≡ true
    → MadeAlike js ks → meets_5 (image_numbers rows a js) ≡ false → meets_5 (image_numbers rows b ks) ≡ false
    → ImagesAlongside rows a b js ks
alongside rows a b js ks ha hb same alike p q =
    let fa = follows rows a js ha in
    let fb = follows rows b ks hb in
    let t = goes_on.alongside rows (cursor_of a) (cursor_of b) js ks same alike (ap meets_5 (sym fa.refusals) ∙ p) (ap meets_5 (sym fb.refusals) ∙ q) in
    record {
      refusals = fa.refusals ∙ t.refusals ∙ sym fb.refusals;
      logs = fa.logs ∙ t.logs ∙ sym fb.logs;
      same = ap₂ same_of fa.cursors fb.cursors ∙ t.same;
    }

-- ---- the whole

pub image_laws : ImageLaws
image_laws =
    record {
      kept = λ c regs ram. kept-sized c (record { regs = regs; ram = ram });
      start = start_kept;
      executed = λ rows input max buffer. kept-sized _ (laws.execute_sized rows input max buffer);
      written_back = written_back;
      cursors = λ rows image ks h. (follows rows image ks h).cursors;
      logs = λ rows image ks h. (follows rows image ks h).logs;
      refusals = λ rows image ks h. (follows rows image ks h).refusals;
      started_cursor = λ rows input ks. (started rows input ks).cursors;
      started_log = λ rows input ks. (started rows input ks).logs;
      alongside = alongside;
    }
