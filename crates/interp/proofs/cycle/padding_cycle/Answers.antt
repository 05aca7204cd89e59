-- `interp::padding_cycle` meets its contract. Assumes nothing.
use Rattle.std.proofs.Common.{suc, ◌∙◌, arith}
use Rattle.interp.specs.Cycle.{frozen_at}
use Rattle.interp.proofs.arms.Lawful.{padding_lawful}
use Rattle.interp.proofs.cycle.padding_cycle.Goals as goal

pub put_effect-requires : goal.put_effect-requires
put_effect-requires c =
    let a = c.args in
    let at = a.core.next_fetch in
    let sound = (padding_lawful a.row at (suc at.0) a.memory.now.regs c.requires.rd (omega arith) a.core.output).sound in
    (c.requires, rw c.padding_arm-e.ensures sound)

pub returns : goal.returns
unfolding frozen_at
returns c = let done = c.put_effect.ensures in let e = c.padding_arm-e.ensures in record {
  cursor = simp (done.regs, done.ram, e);
  shown = done.shown ∙ simp e;
}
