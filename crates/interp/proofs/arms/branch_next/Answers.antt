-- `interp::branch_next` meets its contract. Assumes nothing.
use Rattle.interp.proofs.arms.branch_next.Goals as goal

pub returns-then-taken : goal.returns-then-taken
returns-then-taken c = rw c.if-taken.true c.branch_target.ensures

pub returns-else-taken : goal.returns-else-taken
returns-else-taken c = rw c.if-taken.false
