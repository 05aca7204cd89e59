-- `interp::writes_to` meets its contract. Assumes nothing.
use Rattle.std.proofs.Common.{◌<◌, arith}
use Rattle.interp.proofs.arms.Lawful.{redirect_lt}
use Rattle.interp.proofs.effect.writes_to.Goals.{After-redirected-to}
use Rattle.interp.proofs.effect.writes_to.Goals as goal

cell_in : (c : After-redirected-to) → c.redirected-to.result < 64
cell_in c = simp c.redirected-to.ensures (redirect_lt c.args.rd c.requires)

pub offset_bounds-regs-to : goal.offset_bounds-regs-to
offset_bounds-regs-to c = omega (arith, cell_in (goal.at.offset_bounds-regs-to c).After-redirected-to)

pub bounds-regs-to : goal.bounds-regs-to
bounds-regs-to c = cell_in (goal.at.bounds-regs-to c).After-redirected-to

pub returns : goal.returns
returns c = simp c.redirected-to.ensures
