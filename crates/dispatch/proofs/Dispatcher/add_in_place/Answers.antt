-- `dispatch::Dispatcher::add_in_place` meets its contract. Assumes nothing.
use Rattle.std.proofs.Common.{sym, ◌∙◌}
use Rattle.dispatch.proofs.Ways.{fits, accepted_leaves, refused_leaves}
use Rattle.dispatch.proofs.Dispatcher.add_in_place.Goals as goal

pub raise-requires : goal.raise-requires
raise-requires c = let f = fits _ _ _ (sym c.in-Ok.ensures) in (f.caller, f.sum)

pub returns-in-Ok-clause-dispatcher : goal.returns-in-Ok-clause-dispatcher
returns-in-Ok-clause-dispatcher c = c.raise.ensures ∙ accepted_leaves _ _ _ (sym c.in-Ok.ensures)

pub returns-in-Err-clause-dispatcher : goal.returns-in-Err-clause-dispatcher
returns-in-Err-clause-dispatcher c = refused_leaves _ _ _ c.in-Err.field-0 c.in-Err.ensures
