-- `interp::commit` meets its contract. Assumes nothing.
use Rattle.std.proofs.Common.{add-one}
use Rattle.interp.specs.Cycle.{commit}
use Rattle.interp.proofs.cycle.commit.Goals as goal

pub returns : goal.returns
unfolding commit
returns c = let done = c.put_effect.ensures in record {
  cursor = simp (c.output_after.ensures, c.hold.ensures.regs, c.hold.ensures.ram, done.regs, done.ram, add-one);
  shown = done.shown;
}
