-- `lines::put_lines` meets its contract. Assumes nothing.
use mathlib.Core.Path.{◌≡◌}
use Rattle.std.specs.Slice.Iter.{chunks_exact_rest, chunks_exact_size}
use Rattle.lines.proofs.Laws.{Put, records_text}
use Rattle.lines.proofs.put_lines.Given as goal

abbrev pub invariant-loop-record : goal.invariant-loop-record
invariant-loop-record l = record {
  size : chunks_exact_size l.record-iterator ≡ 17;
  put : Put l.fn.out l.out l.next (records_text l.words) (records_text (chunks_exact_rest l.record-iterator));
}
