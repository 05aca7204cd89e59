use Rattle.std.proofs.Common.{inl, inr, ⊎_elim, ne_eqb}
use Rattle.interp.specs.Values.{load_value}
use Rattle.interp.proofs.values.extract_load.Goals as goal

pub returns-in-0 : goal.returns-in-0
unfolding load_value
returns-in-0 c = ⊎_elim (λ e. rw e c.byte_of.ensures) (λ e. rw e c.byte_of.ensures) c.in-0.is

pub returns-in-1 : goal.returns-in-1
unfolding load_value
returns-in-1 c = ⊎_elim (λ e. rw e c.half_of.ensures) (λ e. rw e c.half_of.ensures) c.in-1.is

pub returns-in_default : goal.returns-in_default
unfolding load_value
returns-in_default c = let r = c.in_default.in_default-own.rest in simp (ne_eqb _ _ (λ e. r.0.1 (inl e)), ne_eqb _ _ (λ e. r.0.1 (inr e)), ne_eqb _ _ (λ e. r.1 (inl e)), ne_eqb _ _ (λ e. r.1 (inr e)))
