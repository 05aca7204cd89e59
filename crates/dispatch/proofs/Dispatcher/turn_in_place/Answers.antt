-- `dispatch::Dispatcher::turn_in_place` meets its contract. Assumes nothing.
use Rattle.std.proofs.Common.{sym, ◌∙◌}
use Rattle.dispatch.specs.Dispatch.{moved}
use Rattle.dispatch.proofs.Ways.{granted_slice, told_granted, moves}
use Rattle.dispatch.proofs.Dispatcher.turn_in_place.Goals as goal

pub serve-requires : goal.serve-requires
serve-requires c =
    let s = granted_slice _ _ (told_granted _ _ c.judge_turn-outcome.ensures ∙ sym c.in-Some.ensures) in
    (s.caller, s.wanted, s.budget)

pub returns-in-Some-clause-dispatcher : goal.returns-in-Some-clause-dispatcher
unfolding moved
returns-in-Some-clause-dispatcher c =
    c.serve.ensures ∙ moves _ _ (told_granted _ _ c.judge_turn-outcome.ensures ∙ sym c.in-Some.ensures)

pub returns-in-None-clause-dispatcher : goal.returns-in-None-clause-dispatcher
unfolding moved
returns-in-None-clause-dispatcher c = moves _ _ (told_granted _ _ c.judge_turn-outcome.ensures ∙ sym c.in-None.ensures)
