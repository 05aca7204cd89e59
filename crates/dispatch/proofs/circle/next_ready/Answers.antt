-- `dispatch::circle::next_ready` meets its contract. Assumes nothing.
use Rattle.std.proofs.Common.{refl, arith}
use Rattle.dispatch.specs.Dispatch.{next_ready}
use Rattle.dispatch.proofs.Search.{found_here, going_on, none_left}
use Rattle.dispatch.proofs.circle.next_ready.Goals as goal

pub loop-init : goal.loop-init
unfolding next_ready
loop-init c = record { inside = omega (arith, c.requires); left = refl }

pub offset_bounds-d-caller : goal.offset_bounds-d-caller
offset_bounds-d-caller c = record { fits = let h = c.loop.invariant.inside in omega arith }

pub bounds-d-caller : goal.bounds-d-caller
bounds-d-caller c = c.loop.invariant.inside

pub returns-then-is_ready : goal.returns-then-is_ready
unfolding next_ready
returns-then-is_ready c = found_here _ _ _ _ c.loop.invariant c.loop-test.true c.if-is_ready.ensures

pub one_past-caller-requires : goal.one_past-caller-requires
one_past-caller-requires c = c.loop.invariant.inside

pub loop-preserved : goal.loop-preserved
loop-preserved c = rw c.one_past-caller.ensures (going_on _ _ _ _ c.loop.invariant c.loop-test.true c.if-is_ready.ensures)

pub returns : goal.returns
unfolding next_ready
returns c = none_left _ _ _ _ c.loop.invariant c.loop-test.false
