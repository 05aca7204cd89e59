-- The words of an input, what an input that is not malformed has, and the two calls below as far as the text needs them. Assumes nothing.
use mathlib.Core.Path.{◌≡◌, refl, sym, ap, ◌∙◌}
use mathlib.Core.List.{List, [], ◌∷◌, ◌++◌, append_assoc, append-nil}
use Prim.Native.Nat.{ℕ, zero, suc, ◌+◌, ◌*◌, ◌-◌, ◌/◌, ◌^◌, ◌≤◌, ◌<◌}
use native.Mathlib.Omega.{arith}
use native.Mathlib.Numerals.{add-one}
use lib.ListN.{length, take, drop, set, get_or, length-append, length-drop}
use Rattle.std.specs.Simd.{first_chunks}
use Rattle.std.specs.Int.{from_le_bytes, w32}
use Rattle.std.proofs.lemmas.List.{take_rest}
use lib.Seq.{drop-cons, set_at, take_at, drop_at}
use mathlib.Core.Bool.{Bool, true, false, not, ◌||◌, false≢true}
use Prim.Native.Nat.{◌%◌}
use native.Mathlib.Nat.{add-zero, zero-add}
use lib.Dec.{eqb, ltb}
use borrow.Author.Tests.{ltb-false, le-ltb, ne_eqb}
use Rattle.std.specs.Prelude.{Ok, Err}
use Rattle.expand.specs.declared.Refusal.{Refusal as NoProgram}
use Rattle.expand.specs.Expand.{expansion_of, expand_refusal_of, expand_answer_of, rows_after, expand_refusal_number as programNumber, expand_told_of as expandedOf}
use Rattle.expand.proofs.Laws.{laws as expanded}
use Rattle.expand.proofs.Chunks.{chunk_reads}
use Rattle.interp.specs.declared.Refusal.{Refusal}
use Rattle.interp.specs.Machine.{start_of}
use Rattle.interp.specs.Calls.{refusal_number}
use Rattle.interp.specs.Execute.{Executed, execution_for, execute_of}
use Rattle.interp.proofs.Above.{laws, executions}
use Rattle.lines.specs.Lines.{answer_text, refused_text}
use Rattle.trace_answer.specs.Trace.{word_at, words_from, pairs_of, inputs_from, max_cycles, input_count, malformed, told_of}

-- ---- values put one behind the other

-- the first n of some values are put, and the rest of them is still to be put
pub record Filled (values before after rest : List ℕ) (n : ℕ) : Type 0 where
  pub front : List ℕ
  pub is : values ≡ front ++ rest
  pub many : length front ≡ n
  pub stand : after ≡ front ++ drop n before

pub none_filled : (values before : List ℕ) → Filled values before before values 0
none_filled values before = record { front = []; is = refl; many = refl; stand = refl }

pub one_filled : {values before after rest left : List ℕ} {n : ℕ} (v : ℕ) → Filled values before after rest n → rest ≡ v ∷ left → n < length before
    → Filled values before (set after n v) left (n + 1)
one_filled {before = before} {n = n} v f e h = record {
  front = f.front ++ (v ∷ []);
  is = f.is ∙ rw (e, append_assoc);
  many = length-append f.front (v ∷ []) ∙ rw f.many;
  stand = rw (f.stand, add-one, append_assoc, drop-cons before n 0) (set_at f.front _ _ v n f.many);
}

-- nothing is left
pub all_filled : {values before after : List ℕ} {n : ℕ} (k : ℕ) → Filled values before after [] n → n ≡ k → after ≡ values ++ drop k before
all_filled k f e = rw (f.is, append-nil, ← e) f.stand

-- ---- words

-- the sum that `from_le_bytes` is
le_word : (b : List ℕ) → from_le_bytes w32 b ≡ get_or b 0 0 + get_or b 1 0 * 256 ^ 1 + get_or b 2 0 * 256 ^ 2 + get_or b 3 0 * 256 ^ 3
le_word b = refl

pub word_is : (bytes : List ℕ) {chunks : List (List ℕ)} (i : ℕ) → chunks ≡ first_chunks 4 (length bytes / 4) bytes → i < length bytes / 4
    → from_le_bytes w32 (get_or chunks i []) ≡ word_at bytes i
unfolding word_at
word_is bytes {chunks} i e h =
    omega (
      arith,
      le_word (get_or chunks i []),
      chunk_reads 4 bytes i 0 (4 * i) 0 e h (omega arith) (omega arith),
      chunk_reads 4 bytes i 1 (4 * i + 1) 0 e h (omega arith) (omega arith),
      chunk_reads 4 bytes i 2 (4 * i + 2) 0 e h (omega arith) (omega arith),
      chunk_reads 4 bytes i 3 (4 * i + 3) 0 e h (omega arith) (omega arith),
    )

pub words-next : (bytes : List ℕ) (n i : ℕ) → i < n → words_from (n - i) i bytes ≡ word_at bytes i ∷ words_from (n - (i + 1)) (i + 1) bytes
unfolding words_from
words-next bytes n i h = let e : n - i ≡ suc (n - (i + 1)) = omega arith in rw e

pub pairs-next : (ws : List ℕ) (i : ℕ) → i < length ws / 2
    → pairs_of (drop (2 * i) ws) ≡ (get_or ws (2 * i) 0 + 2 ^ 32 * get_or ws (2 * i + 1) 0) ∷ pairs_of (drop (2 * (i + 1)) ws)
unfolding pairs_of
pairs-next ws i h =
    let a : 2 * i < length ws = omega arith in
    let b : suc (2 * i) < length ws = omega arith in
    let e : 2 * (i + 1) ≡ suc (suc (2 * i)) = omega arith in
    rw (e, add-one, drop-cons ws (2 * i) 0, drop-cons ws (suc (2 * i)) 0)

no_pair : (ws : List ℕ) → length ws < 2 → pairs_of ws ≡ []
unfolding pairs_of
no_pair [] h = refl
no_pair (w ∷ []) h = refl
no_pair (w ∷ v ∷ ws) h = absurd (omega arith)

pub pairs-none : (ws : List ℕ) (i : ℕ) → length ws / 2 ≤ i → pairs_of (drop (2 * i) ws) ≡ []
pairs-none ws i h = no_pair (drop (2 * i) ws) (rw length-drop (omega arith))

pub words-length : (n i : ℕ) (bytes : List ℕ) → length (words_from n i bytes) ≡ n
unfolding words_from
words-length zero i bytes = refl
words-length (suc n) i bytes = ap suc (words-length n (i + 1) bytes)

-- the words from i on are some of them and the others
pub words_split : (n m i : ℕ) (bytes : List ℕ) → words_from (n + m) i bytes ≡ words_from n i bytes ++ words_from m (i + n) bytes
unfolding words_from
words_split zero m i bytes = rw (zero-add, add-zero)
words_split (suc n) m i bytes =
    let e : i + 1 + n ≡ i + suc n = omega arith in
    let s : suc n + m ≡ suc (n + m) = omega arith in
    rw (s, words_split n m (i + 1) bytes, e)

-- the words from place n on, and the words in front of it
module _ (bytes : List ℕ) (n m : ℕ) (h : n ≤ m) where
  parted : words_from m 0 bytes ≡ words_from n 0 bytes ++ words_from (m - n) n bytes
  parted =
      let s : m ≡ n + (m - n) = omega arith in
      ap (λ (k : ℕ). words_from k 0 bytes) s ∙ words_split n (m - n) 0 bytes ∙ rw zero-add

  pub drop-words : drop n (words_from m 0 bytes) ≡ words_from (m - n) n bytes
  drop-words = rw parted (drop_at (words_from n 0 bytes) _ n (words-length n 0 bytes))

  pub take-words : take n (words_from m 0 bytes) ≡ words_from n 0 bytes
  take-words = rw parted (take_at (words_from n 0 bytes) _ n (words-length n 0 bytes))

pub pairs-words : (k i : ℕ) (bytes : List ℕ) → pairs_of (words_from (2 * k) i bytes) ≡ inputs_from k i bytes
unfolding pairs_of words_from inputs_from
pairs-words zero i bytes = refl
pairs-words (suc k) i bytes =
    let s : 2 * suc k ≡ suc (suc (2 * k)) = omega arith in
    let e : i + 1 + 1 ≡ i + 2 = omega arith in
    rw (s, e, pairs-words k (i + 2) bytes)

pub inputs_length : (n i : ℕ) (bytes : List ℕ) → length (inputs_from n i bytes) ≡ n
unfolding inputs_from
inputs_length zero i bytes = refl
inputs_length (suc n) i bytes = ap suc (inputs_length n (i + 2) bytes)

-- ---- an input that is not malformed

neither : (a b : Bool) → (a || b) ≡ false → (a ≡ false) × (b ≡ false)
neither true b e = absurd (false≢true (sym e))
neither false b e = (refl, e)

none_of : (a b c d f : Bool) → (a || b || c || d || f) ≡ false → (c ≡ false) × (d ≡ false) × (f ≡ false)
none_of a b c d f e =
    let last = neither (a || b || c || d) f e in
    let inside = neither (a || b || c) d last.0 in
    ((neither (a || b) c inside.0).1, inside.1, last.1)

pub record Formed (bytes : List ℕ) : Type 0 where
  pub few : length bytes ≤ 4096
  pub enough : 8 + 8 * input_count bytes ≤ length bytes
  pub short : max_cycles bytes ≤ 256

pub formed : (bytes : List ℕ) → malformed bytes ≡ false → Formed bytes
unfolding malformed
formed bytes e =
    let none = none_of (not (eqb (length bytes % 4) 0)) (ltb (length bytes) 8) (ltb 4096 (length bytes)) (ltb (length bytes) (8 + 8 * input_count bytes)) (ltb 256 (max_cycles bytes)) e in
    record {
      few = ltb-false 4096 (length bytes) none.0;
      enough = ltb-false (length bytes) (8 + 8 * input_count bytes) none.1;
      short = ltb-false 256 (max_cycles bytes) none.2;
    }

-- the words of such an input: the first two, and what is known of their number
pub record Parts (bytes words : List ℕ) : Type 0 where
  pub all : take (length bytes / 4) words ≡ words_from (length bytes / 4) 0 bytes
  pub max : get_or words 0 0 ≡ max_cycles bytes
  pub count : get_or words 1 0 ≡ input_count bytes
  pub few : length bytes ≤ 4096
  pub enough : 2 + 2 * get_or words 1 0 ≤ length bytes / 4
  pub short : get_or words 0 0 ≤ 256

pub parts : (bytes words rest : List ℕ) → malformed bytes ≡ false → words ≡ words_from (length bytes / 4) 0 bytes ++ rest → Parts bytes words
unfolding words_from
parts bytes words rest e h =
    let f = formed bytes e in
    let some : length bytes / 4 ≡ suc (suc (length bytes / 4 - 2)) = omega (arith, f.enough) in
    let max : get_or words 0 0 ≡ max_cycles bytes = rw (h, some) in
    let count : get_or words 1 0 ≡ input_count bytes = rw (h, some) in
    record {
      all = rw h (take_at _ rest _ (words-length (length bytes / 4) 0 bytes));
      max = max;
      count = count;
      few = f.few;
      enough = omega (arith, f.enough, count);
      short = omega (arith, f.short, max);
    }

-- the k input words of such an input, from the words in front of its program
pub inputs-of : (bytes head input rest : List ℕ) (k : ℕ) → 2 + 2 * k ≤ length bytes / 4 → head ≡ take (2 + 2 * k) (words_from (length bytes / 4) 0 bytes)
    → input ≡ pairs_of (take (length head - 2) (drop 2 head)) ++ rest → take k input ≡ inputs_from k 2 bytes
inputs-of bytes head input rest k h e f =
    let is : head ≡ words_from (2 + 2 * k) 0 bytes = e ∙ take-words bytes (2 + 2 * k) (length bytes / 4) h in
    let behind : drop 2 head ≡ words_from (2 * k) 2 bytes = (let s : 2 + 2 * k - 2 ≡ 2 * k = omega arith in rw is (drop-words bytes 2 (2 + 2 * k) (omega arith) ∙ rw s)) in
    let all : take (length head - 2) (drop 2 head) ≡ drop 2 head = take_rest head 2 in
    rw (f, all, behind, pairs-words) (take_at (inputs_from k 2 bytes) rest k (inputs_length k 2 bytes))

-- ---- execute

-- it makes at most 256 records
pub count_most : (rows input : List ℕ) (max : ℕ) (b : List ℕ) → max ≤ 256 → (execute_of rows input max b).number ≡ 0 → (execute_of rows input max b).record_count ≤ 256
count_most rows input max b h e =
    let counts = executions.counts rows input max b e in
    let few : (execute_of rows input max b).live_count ≤ 256 = omega (arith, h, counts.live_count, (executions.steps rows max (start_of input)).most) in
    omega (arith, counts.record_count, (executions.smallest (execute_of rows input max b).live_count (omega (arith, few))).least 8 (omega (arith, few)))

-- ---- the text of an execution

pub told_refused : (e : Executed) (why : Refusal) (number : ℕ) → number ≡ refusal_number why → refusal_number why ≡ e.number → refused_text number ≡ told_of e
unfolding told_of
told_refused e why number n h = rw (n, sym h, laws.refused why)

pub told_accepted : (e : Executed) → 0 ≡ e.number → told_of e ≡ answer_text e.live_count e.record_count e.cursor.output e.buffer
unfolding told_of
told_accepted e h = rw (sym h)

-- ---- expand

module _ (program rows starts : List ℕ) where
  -- a program that is not too long and has words is not refused
  taken_on : (length program ≡ 0 → ⊥) → length program ≤ 1022 → length rows ≡ 6132 → length starts ≡ 1022
      → expand_refusal_of program (length rows) (length starts) ≡ 0
  unfolding expand_refusal_of
  taken_on some h r s =
      let most = expanded.at_most_six program in
      rw (ne_eqb _ _ some, le-ltb 1048576 (length program) (omega arith), le-ltb (length rows) (length (expansion_of program)) (omega arith), le-ltb (length starts) (length program) (omega arith))

  -- what an accepted call answers and leaves
  pub accepted_count : (n : ℕ) → expandedOf (Ok n) ≡ expand_answer_of program rows starts → n ≡ length (expansion_of program)
  accepted_count n e =
      let zero_is : 0 ≡ expand_refusal_of program (length rows) (length starts) = ap (λ t. t.number) e in
      ap (λ t. t.count) e ∙ rw (sym zero_is) refl

  pub accepted_rows : (n : ℕ) → expandedOf (Ok n) ≡ expand_answer_of program rows starts → take n (rows_after program rows starts) ≡ expansion_of program
  accepted_rows n e =
      let zero_is : 0 ≡ expand_refusal_of program (length rows) (length starts) = ap (λ t. t.number) e in
      rw (sym zero_is) (take_at (expansion_of program) _ n (sym (accepted_count n e)))

-- a program that is refused has no words, and so no rows for execute
pub told_no_program : (program rows starts : List ℕ) (why : NoProgram) (input : List ℕ) (max : ℕ) (b : List ℕ)
    → length program ≤ 1022 → length rows ≡ 6132 → length starts ≡ 1022 → expandedOf (Err why) ≡ expand_answer_of program rows starts
    → told_of (execute_of (expansion_of program) input max b) ≡ refused_text (programNumber why)
unfolding told_of execute_of execution_for expansion_of expand_refusal_of
told_no_program [] rows starts why input max b h r s e = rw (ap (λ t. t.number) e)
told_no_program (raw ∷ program) rows starts why input max b h r s e =
    let zero_is = taken_on (raw ∷ program) rows starts (λ z. omega (arith, z)) h r s in
    absurd (omega (arith, expanded.non_empty (raw ∷ program) (omega arith), rw zero_is at (ap (λ t. t.count) e)))
