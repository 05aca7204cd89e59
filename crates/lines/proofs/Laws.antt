-- Texts put one behind the other, and the lengths of texts. Assumes nothing.
use mathlib.Core.Path.{◌≡◌, refl, sym, ap, ◌∙◌}
use mathlib.Core.List.{List, [], ◌∷◌, ◌++◌, append_assoc, append-nil}
use Prim.Native.Nat.{ℕ, zero, suc, ◌+◌, ◌-◌, ◌*◌, ◌/◌, ◌≤◌, ◌<◌}
use native.Mathlib.Omega.{arith}
use native.Mathlib.Numerals.{add-one}
use Rattle.std.proofs.Common.{cond, nat_le, None, Some, le-leb}
use Rattle.std.proofs.lemmas.Bool.{lt-leb}
use lib.ListN.{length, take, drop, get_or, set, length-append, length-take, length-drop, drop_of_length-le}
use Rattle.std.proofs.lemmas.List.{take_all, take_at, drop_at, get_or-take, drop-take, take-take}
use borrow.Rule.Slice.PartMut.{put_mid}
use lib.Seq.{drop-cons, drop-drop, set_at}
use Rattle.lines.specs.Text.{decimal}
use Rattle.lines.specs.Lines.{number_text, line_of, lines_of, answer_text, refused_text, written}
use Rattle.lines.proofs.Decimal.{digits-few}

-- ---- texts

-- a character put behind what is put of a text, which ends the text
pub record Ended (put before out : List ℕ) (n c : ℕ) : Type 0 where
  pub room : n < length out
  pub length : n + 1 ≡ length put
  pub text : set out n c ≡ written put before

pub ended : {text before out : List ℕ} {n c : ℕ} (front : List ℕ) → text ≡ front ++ (c ∷ []) → length text ≤ length before
    → n ≡ length front → out ≡ written front before → Ended text before out n c
ended {text} {before} {out} {n} {c} front t h e o =
    let long : length text ≡ length front + 1 = ap length t ∙ length-append front (c ∷ []) in
    let room : length front < length before = omega arith in
    record {
      room = rw (o, length-append, length-drop) (omega arith);
      length = omega arith;
      text = rw (o, t, append_assoc, drop-cons before (length front) 0 room, length-append, ← add-one) (set_at front _ _ c n (sym e));
    }

-- ---- texts put one behind the other

-- a part of a text is put, and the rest is still to be put
pub record Put (before out : List ℕ) (next : ℕ) (text rest : List ℕ) : Type 0 where
  pub part : List ℕ
  pub is : text ≡ part ++ rest
  pub ends : next ≡ length part
  pub puts : out ≡ written part before

pub none_put : (before text : List ℕ) → Put before before 0 text text
none_put before text = record { part = []; is = refl; ends = refl; puts = refl }

module _ {before out text rest : List ℕ} {next : ℕ} (more left : List ℕ) (p : Put before out next text rest) (e : rest ≡ more ++ left) (h : length text ≤ length before) where
  lengths : length p.part + length more ≤ length before
  lengths = omega (arith, ap length p.is, length-append p.part rest, ap length e, length-append more left)

  long : length out ≡ length before
  long = ap length p.puts ∙ length-append p.part _ ∙ rw length-drop (omega (arith, lengths))

  behind : drop next out ≡ drop (length p.part) before
  behind = rw (p.puts, p.ends) (drop_at p.part _ _ refl)

  -- the next part fits behind
  pub part_fits : (k : ℕ) → k ≡ length before - next → length more ≤ length (take k (drop next out))
  part_fits k f = rw (behind, length-take, length-drop) (omega (arith, lengths, p.ends))

  -- and is put there
  pub part_put : {new : List ℕ} {n : ℕ} (k : ℕ) → k ≡ length before - next → n ≡ length more → new ≡ written more (take k (drop next out))
      → Put before (put_mid next k out new) (next + n) text left
  part_put {new} {n} k f en o = record {
    part = p.part ++ more;
    is = p.is ∙ rw (e, append_assoc);
    ends = omega (arith, p.ends, length-append p.part more);
    puts =
        let front : take next out ≡ p.part = rw (p.puts, p.ends) (take_at p.part _ _ refl) in
        let short : length (drop next out) ≤ k = rw (behind, length-drop) (omega (arith, p.ends)) in
        let none : drop k (drop next out) ≡ [] = drop_of_length-le (drop next out) {i = k} short in
        let all : take k (drop next out) ≡ drop next out = take_all k (drop next out) short in
        let is : new ≡ more ++ drop (length p.part + length more) before = o ∙ rw (all, behind, drop-drop) in
        rw (front, none, is, append-nil, append_assoc, length-append);
  }

-- a text of two parts of which the first is put
pub first_put : {before out : List ℕ} {next : ℕ} (first rest : List ℕ) → next ≡ length first → out ≡ written first before → Put before out next (first ++ rest) rest
first_put first rest e o = record { part = first; is = refl; ends = e; puts = o }

-- nothing is left
pub all_put : {before out text : List ℕ} {next : ℕ} → Put before out next text [] → (next ≡ length text) × (out ≡ written text before)
all_put p = let e = p.is ∙ append-nil p.part in (p.ends ∙ ap length (sym e), rw e p.puts)

-- ---- lines

pub word_longer : (word mark : ℕ) → length (number_text word mark) ≡ length (decimal word) + 1
unfolding number_text
word_longer word mark = length-append (decimal word) _

-- no words, no text
pub no_words : (ws : List ℕ) → length ws < 1 → line_of ws ≡ []
unfolding line_of
no_words [] h = refl
no_words (w ∷ ws) h = absurd (omega arith)

-- a comma behind each word but the last
pub word_next : (ws : List ℕ) (i : ℕ) → i < length (take (length ws - 1) ws)
    → line_of (drop i ws) ≡ number_text (get_or (take (length ws - 1) ws) i 0) 44 ++ line_of (drop (i + 1) ws)
unfolding line_of
word_next ws i h =
    let k : i < length ws - 1 = omega (arith, h, length-take (length ws - 1) ws) in
    let l : i < length ws = omega arith in
    let m : suc i < length ws = omega arith in
    rw (get_or-take, add-one, drop-cons ws i 0, drop-cons ws (suc i) 0)

-- and a line feed behind the last
pub word-last : (ws : List ℕ) (i : ℕ) → 0 < length ws → length (take (length ws - 1) ws) ≤ i → i ≤ length (take (length ws - 1) ws)
    → line_of (drop i ws) ≡ number_text (get_or ws (length ws - 1) 0) 10 ++ []
unfolding line_of
word-last ws i some low high =
    let e : i ≡ length ws - 1 = omega (arith, low, high, length-take (length ws - 1) ws) in
    let l : length ws - 1 < length ws = omega arith in
    let m : length ws ≤ suc (length ws - 1) = omega arith in
    rw (e, append-nil, drop-cons ws (length ws - 1) 0, drop_of_length-le ws {i = suc (length ws - 1)} m)

-- what a word adds to the length of a line
pub line_longer : (w : ℕ) (ws : List ℕ) → length (line_of (w ∷ ws)) ≡ length (decimal w) + 1 + length (line_of ws)
unfolding line_of
line_longer w [] = omega (arith, word_longer w 10)
line_longer w (v ∷ ws) = length-append (number_text w 44) (line_of (v ∷ ws)) ∙ ap (λ n. n + length (line_of (v ∷ ws))) (word_longer w 44)

pub line_next : (ws : List ℕ) (i : ℕ) → i < length ws
    → length (line_of (drop i ws)) ≡ length (decimal (get_or ws i 0)) + 1 + length (line_of (drop (i + 1) ws))
line_next ws i h = rw (drop-cons ws i 0 h) (line_longer (get_or ws i 0) (drop (suc i) ws) ∙ ap (λ k. length (decimal (get_or ws i 0)) + 1 + length (line_of (drop k ws))) (sym (add-one i)))

-- none is left
line_end : (ws : List ℕ) (i : ℕ) → length ws ≤ i → length (line_of (drop i ws)) ≡ 0
unfolding line_of
line_end ws i h = rw (drop_of_length-le ws {i = i} h)

-- after i words the room has lost as much as the line
abbrev pub Left : List ℕ → ℕ → ℕ → ℕ → Type 0
Left ws room left i = room + length (line_of (drop i ws)) ≡ left + length (line_of ws)

module _ (ws : List ℕ) (room left i : ℕ) (e : Left ws room left i) where
  -- the next word is too long
  pub line_over : {n : ℕ} → i < length ws → n ≡ length (decimal (get_or ws i 0)) → left < n + 1
      → None ≡ cond (nat_le (length (line_of ws)) room) (Some (room - length (line_of ws))) None
  line_over {n} h d l =
      let over : room < length (line_of ws) = omega (arith, line_next ws i h) in
      rw (lt-leb (length (line_of ws)) room over)

  -- none is left
  pub line_fits : length ws ≤ i → Some left ≡ cond (nat_le (length (line_of ws)) room) (Some (room - length (line_of ws))) None
  line_fits h =
      let rest : left ≡ room - length (line_of ws) = omega (arith, line_end ws i h) in
      let fits : length (line_of ws) ≤ room = omega (arith, line_end ws i h) in
      rw (le-leb (length (line_of ws)) room fits, rest)

-- the lines of the records that words are
abbrev pub records_text : List ℕ → List ℕ
records_text ws = lines_of (length ws / 17) ws

pub record_next : (ws line rest : List ℕ) → ws ≡ line ++ rest → length line ≡ 17 → records_text ws ≡ line_of line ++ records_text rest
unfolding lines_of
record_next ws line rest e h =
    let n : length (line ++ rest) / 17 ≡ suc (length rest / 17) = omega (arith, length-append line rest) in
    rw (e, n, take_at line rest 17 h, drop_at line rest 17 h)

pub record-none : (ws : List ℕ) → length ws < 17 → records_text ws ≡ []
unfolding lines_of
record-none ws h = let n : length ws / 17 ≡ 0 = omega arith in rw n

-- the first records of more words
records_of_first : (n : ℕ) (ws : List ℕ) → lines_of n (take (17 * n) ws) ≡ lines_of n ws
unfolding lines_of
records_of_first zero ws = refl
records_of_first (suc n) ws =
    let e : 17 * suc n ≡ 17 + 17 * n = omega arith in
    rw (e, take-take 17 (17 + 17 * n) ws (omega arith), drop-take 17 (17 * n) ws, records_of_first n (drop 17 ws))

pub first_records : (n : ℕ) (ws : List ℕ) → 17 * n ≤ length ws → records_text (take (17 * n) ws) ≡ lines_of n ws
first_records n ws h = let e : length (take (17 * n) ws) / 17 ≡ n = omega (arith, length-take (17 * n) ws) in rw e (records_of_first n ws)

-- ---- every text fits

pub word-few : (word mark : ℕ) → length (number_text word mark) ≤ 21
word-few word mark = omega (arith, word_longer word mark, digits-few 20 word)

line-few : (ws : List ℕ) (m : ℕ) → length ws ≤ m → 0 < m → length (line_of ws) ≤ 21 * m
unfolding line_of
line-few [] m h l = omega arith
line-few (w ∷ []) m h l = omega (arith, word-few w 10)
line-few (w ∷ v ∷ ws) m h l =
    omega (arith, word-few w 44, length-append (number_text w 44) (line_of (v ∷ ws)), line-few (v ∷ ws) (m - 1) (omega arith) (omega arith))

lines_few : (n : ℕ) (ws : List ℕ) → length (lines_of n ws) ≤ 357 * n
unfolding lines_of
lines_few zero ws = omega arith
lines_few (suc n) ws =
    omega (
      arith,
      length-append (line_of (take 17 ws)) (lines_of n (drop 17 ws)),
      line-few (take 17 ws) 17 (omega (arith, length-take 17 ws)) (omega arith),
      lines_few n (drop 17 ws),
    )

pub answer_fits : (live records output : ℕ) (words : List ℕ) → records ≤ 256 → length (answer_text live records output words) ≤ 91455
unfolding answer_text
answer_fits live records output words h =
    omega (
      arith,
      length-append (line_of (live ∷ records ∷ output ∷ [])) (lines_of records words),
      line-few (live ∷ records ∷ output ∷ []) 3 (omega arith) (omega arith),
      lines_few records words,
    )

pub refused_fits : (number : ℕ) → length (refused_text number) ≤ 91455
unfolding refused_text
refused_fits number = omega (arith, word-few number 10)
