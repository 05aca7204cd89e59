-- `lines::put_line` meets its contract. Assumes nothing.
use mathlib.Core.Path.{sym, ap}
use mathlib.Core.List.{[]}
use Prim.Native.Nat.{◌-◌}
use native.Mathlib.Omega.{arith}
use lib.ListN.{length, take, get_or}
use Rattle.lines.specs.Lines.{number_text}
use Rattle.lines.proofs.Laws.{no_words, part_fits, part_put, all_put, word_next, word-last}
use Rattle.lines.proofs.put_line.Goals as goal

pub returns-in_default-clause-length : goal.returns-in_default-clause-length
returns-in_default-clause-length c = sym (ap length (no_words _ c.in_default.len_below))

pub returns-in_default-clause-text : goal.returns-in_default-clause-text
returns-in_default-clause-text c = rw (no_words _ c.in_default.len_below)

pub put_number-next-requires : goal.put_number-next-requires
put_number-next-requires c =
    let l = c.loop-word in
    part_fits (number_text (get_or (take (length c.args.words.now - 1) c.args.words.now) l.word-index 0) 44) _ l.invariant (word_next _ l.word-index (omega arith)) c.requires _ (omega arith)

pub loop-word-preserved : goal.loop-word-preserved
loop-word-preserved c =
    let l = c.loop-word in
    let put = c.put_number-next.ensures in
    part_put (number_text (get_or (take (length c.args.words.now - 1) c.args.words.now) l.word-index 0) 44) _ l.invariant (word_next _ l.word-index (omega arith)) c.requires _ (omega arith) put.length put.text

pub put_number-requires : goal.put_number-requires
put_number-requires c =
    let ws = c.args.words.now in
    let l = c.loop-word in
    part_fits (number_text (get_or ws (length ws - 1) 0) 10) [] l.invariant (word-last ws l.word-index c.in-len1-up.len_at_least c.loop-word-test.false l.auto.word-index-end) c.requires _ (omega arith)

pub returns : goal.returns
returns c =
    let ws = c.args.words.now in
    let l = c.loop-word in
    let put = c.put_number.ensures in
    let all = all_put (part_put (number_text (get_or ws (length ws - 1) 0) 10) [] l.invariant (word-last ws l.word-index c.in-len1-up.len_at_least c.loop-word-test.false l.auto.word-index-end) c.requires _ (omega arith) put.length put.text) in
    record { length = all.0; text = all.1 }
