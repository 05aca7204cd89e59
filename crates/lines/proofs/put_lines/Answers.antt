-- `lines::put_lines` meets its contract. Assumes nothing.
use mathlib.Core.Path.{◌∙◌}
use Prim.Native.Nat.{◌<◌}
use native.Mathlib.Omega.{arith}
use lib.ListN.{length}
use Rattle.std.specs.Slice.Iter.{chunks_exact_rest}
use Rattle.lines.specs.Lines.{line_of}
use Rattle.lines.proofs.Laws.{part_fits, part_put, all_put, record_next, record-none}
use Rattle.lines.proofs.put_lines.Goals as goal

pub put_line-next-requires : goal.put_line-next-requires
put_line-next-requires c =
    let l = c.loop-record in
    let step = c.in-Some.ensures.steps.1 in
    part_fits (line_of c.in-Some.record.now) _ l.invariant.put (record_next _ c.in-Some.record.now _ step.0 (step.1 ∙ l.invariant.size)) c.requires _ (omega arith)

pub loop-record-preserved : goal.loop-record-preserved
loop-record-preserved c =
    let l = c.loop-record in
    let steps = c.in-Some.ensures.steps in
    let step = steps.1 in
    let put = c.put_line-next.ensures in
    record {
      size = steps.0 ∙ l.invariant.size;
      put = part_put (line_of c.in-Some.record.now) _ l.invariant.put (record_next _ c.in-Some.record.now _ step.0 (step.1 ∙ l.invariant.size)) c.requires _ (omega arith) put.length put.text;
    }

pub returns : goal.returns
returns c =
    let l = c.loop-record in
    let few : length (chunks_exact_rest l.record-iterator) < 17 = rw l.invariant.size at c.in-None.ensures.steps.1.0 in
    let all = all_put (rw (record-none (chunks_exact_rest l.record-iterator) few) at l.invariant.put) in
    record { length = all.0; text = all.1 }
