-- `interp::branch_flags` meets its contract. Assumes nothing.
use Rattle.interp.proofs.arms.branch_flags.Goals as goal

pub returns-then-taken : goal.returns-then-taken
returns-then-taken c = rw c.if-taken.true

pub returns-else-taken : goal.returns-else-taken
returns-else-taken c = rw c.if-taken.false
