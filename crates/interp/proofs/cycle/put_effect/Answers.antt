-- `interp::put_effect` meets its contract. Assumes nothing.
use Rattle.std.proofs.Common.{ap, ◌∙◌}
use Rattle.interp.specs.Machine.{words}
use Rattle.interp.specs.Cycle.{record_of, ram_after}
use Rattle.interp.proofs.cycle.put_effect.Goals as goal

pub put-requires : goal.put-requires
unfolding record_of
put-requires c = simp c.record_of-record.ensures c.requires.1.flags

pub returns : goal.returns
returns c = record {
  regs = c.store.ensures.regs ∙ c.write.ensures.regs;
  ram = c.store.ensures.ram ∙ ap (ram_after c.args.e) c.write.ensures.ram;
  shown = c.put.ensures ∙ ap words c.record_of-record.ensures;
}
