-- `trace_answer::is_malformed` meets its contract. Assumes nothing.
use borrow.Author.Tests.{eq-eqb, ne_eqb, lt-ltb, le-ltb}
use Rattle.trace_answer.specs.Trace.{malformed}
use Rattle.trace_answer.proofs.is_malformed.Goals.{then-n-ne0-via-then-n-ne0, then-n-ne0-via-else-n-ne0+then-n-lt8, then-n-ne0-via-else-n-ne0+else-n-lt8+then-n-gt-MAX_BYTES}
use Rattle.trace_answer.proofs.is_malformed.Goals as goal

pub returns-then-n-ne0 : goal.returns-then-n-ne0
unfolding malformed
returns-then-n-ne0 c =
    elim c.then-n-ne0.branch [
      | then-n-ne0-via-then-n-ne0 w ↦ simp (ne_eqb _ _ w.if-n-ne0.true)
      | then-n-ne0-via-else-n-ne0+then-n-lt8 w ↦ simp (eq-eqb _ _ w.if-n-ne0.false, lt-ltb _ _ w.if-n-lt8.true)
      | then-n-ne0-via-else-n-ne0+else-n-lt8+then-n-gt-MAX_BYTES w ↦
          simp (eq-eqb _ _ w.if-n-ne0.false, le-ltb _ _ w.if-n-lt8.false, lt-ltb _ _ w.if-n-gt-MAX_BYTES.true)
    ]

pub returns-then-n-from : goal.returns-then-n-from
unfolding malformed
returns-then-n-from c =
    simp (eq-eqb _ _ c.if-n-ne0.false, le-ltb _ _ c.if-n-lt8.false, le-ltb _ _ c.if-n-gt-MAX_BYTES.false, ← c.word_at.ensures, ← c.from.ensures, lt-ltb _ _ c.if-n-from.true)

pub returns-else-n-from : goal.returns-else-n-from
unfolding malformed
returns-else-n-from c =
    simp (
      eq-eqb _ _ c.if-n-ne0.false,
      le-ltb _ _ c.if-n-lt8.false,
      le-ltb _ _ c.if-n-gt-MAX_BYTES.false,
      ← c.word_at.ensures,
      ← c.from.ensures,
      le-ltb _ _ c.if-n-from.false,
      ← c.word_at-else-n-from.ensures,
    )
