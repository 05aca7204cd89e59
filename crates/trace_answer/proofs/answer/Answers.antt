-- `trace_answer::answer` meets its contract. Assumes nothing.
use mathlib.Core.Path.{ap, sym, ◌∙◌}
use Prim.Native.Nat.{◌+◌, ◌*◌, ◌/◌}
use native.Mathlib.Omega.{arith}
use lib.ListN.{length, take, drop, get_or, length-take}
use lib.Seq.{length-take-le}
use Rattle.trace_answer.specs.Trace.{trace_of}
use Rattle.trace_answer.proofs.Laws.{Parts, parts, formed, inputs-of, drop-words}
use Rattle.trace_answer.proofs.answer.Goals.{Else-is_malformed, After-fill_words}
use Rattle.trace_answer.proofs.answer.Goals as goal

pub returns-then-is_malformed : goal.returns-then-is_malformed
unfolding trace_of
returns-then-is_malformed c =
    let yes = sym c.is_malformed.ensures ∙ c.if-is_malformed.true in
    record { length = rw yes c.put_refused.ensures.length; text = rw yes c.put_refused.ensures.text }

pub fill_words-requires : goal.fill_words-requires
fill_words-requires c = omega (arith, formed c.args.bytes.now (sym c.is_malformed.ensures ∙ c.if-is_malformed.false))

parts_of : (c : After-fill_words) → Parts c.args.bytes.now c.fill_words.new.words
parts_of c = parts c.args.bytes.now _ _ (sym c.is_malformed.ensures ∙ c.if-is_malformed.false) c.fill_words.ensures

pub overflow_cast-k : goal.overflow_cast-k
overflow_cast-k c = omega (arith, parts_of (goal.at.overflow_cast-k c).After-fill_words)

pub slice_bounds-words-end : goal.slice_bounds-words-end
slice_bounds-words-end c = omega (arith, parts_of (goal.at.slice_bounds-words-end c).After-fill_words, c.fill_words.auto)

pub slice_bounds-split_at-end : goal.slice_bounds-split_at-end
slice_bounds-split_at-end c = sym (length-take-le _ _ (omega (arith, parts_of (goal.at.slice_bounds-split_at-end c).After-fill_words, c.fill_words.auto)))

pub overflow_mul-k : goal.overflow_mul-k
overflow_mul-k c = omega (arith, parts_of (goal.at.overflow_mul-k c).After-fill_words)

pub overflow_add-k : goal.overflow_add-k
overflow_add-k c = omega (arith, parts_of (goal.at.overflow_add-k c).After-fill_words)

pub split_at-requires : goal.split_at-requires
split_at-requires c = omega (arith, parts_of (goal.at.split_at-requires c).After-fill_words, c.fill_words.auto, length-take (length c.args.bytes.now / 4) c.fill_words.new.words)

pub put_run-requires : goal.put_run-requires
put_run-requires c =
    let p = parts_of (goal.at.put_run-requires c).After-fill_words in
    (omega (arith, p, c.split_at.ensures.back_len, c.fill_words.auto, length-take (length c.args.bytes.now / 4) c.fill_words.new.words), omega (arith, c.from-max.ensures, p))

pub returns : goal.returns
unfolding trace_of
returns c =
    let bytes = c.args.bytes.now in
    let n = length bytes / 4 in
    let k = get_or c.fill_words.new.words 1 0 in
    let no = (sym c.is_malformed.ensures ∙ c.if-is_malformed.false) in
    let p = parts_of (goal.at.returns c).After-fill_words in
    let program = c.split_at.ensures.back ∙ ap (drop (2 + 2 * k)) p.all ∙ drop-words bytes (2 + 2 * k) n p.enough in
    let input = inputs-of bytes c.split_at.result.0.now c.fill_input.new.input _ k p.enough (c.split_at.ensures.front ∙ ap (take (2 + 2 * k)) p.all) c.fill_input.ensures in
    record {
      length = rw (no, ← p.count, ← p.max, ← input, ← program, ← c.from-max.ensures) c.put_run.ensures.length;
      text = rw (no, ← p.count, ← p.max, ← input, ← program, ← c.from-max.ensures) c.put_run.ensures.text;
    }
