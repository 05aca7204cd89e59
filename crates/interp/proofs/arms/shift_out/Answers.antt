-- `interp::shift_out` meets its contract. Assumes nothing.
use Rattle.std.proofs.Common.{inl, inr, ⊎_elim, ne_eqb}
use Rattle.interp.proofs.arms.shift_out.Goals as goal

pub returns-in-1 : goal.returns-in-1
returns-in-1 c = ⊎_elim (λ e. rw e) (λ e. rw e) c.in-1.is

pub returns-in_default : goal.returns-in_default
returns-in_default c = simp (ne_eqb _ _ (λ e. c.in_default.in_default-own.rest.1 (inl e)), ne_eqb _ _ (λ e. c.in_default.in_default-own.rest.1 (inr e)))
