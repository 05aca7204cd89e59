-- What the loop of `dispatch::circle::next_ready` keeps. Assumes nothing.
use Rattle.dispatch.specs.Dispatch.{ready_at}
use Rattle.dispatch.proofs.Search.{Going}
use Rattle.dispatch.proofs.circle.next_ready.Given as goal

abbrev pub invariant-loop : goal.invariant-loop
invariant-loop l = Going (ready_at l.d) l.d.position l.caller l.counter
