-- `interp::pad_rest` meets its contract. Assumes nothing.
use Rattle.std.proofs.Common.{◌≡◌, ◌+◌, ◌-◌, ◌*◌, refl, ◌∙◌, arith}
use Rattle.interp.specs.Machine.{flat}
use Rattle.interp.specs.Cycle.{frozen_at}
use Rattle.interp.specs.Calls.{recorded}
use Rattle.interp.specs.Code.{whole}
use Rattle.interp.proofs.run.Lists.{rest_back}
use Rattle.interp.proofs.run.pad_rest.Goals as goal

pub returns : goal.returns
returns c =
    let a = c.args in
    let k = a.stopped.count in
    let m : 17 * k + 17 * (a.due - k) ≡ 17 * a.due = omega (arith, c.requires.1.0) in
    let done = c.run_padding.ensures in
    record {
      cursor = done.cursor;
      records = rest_back a.records.now (17 * k) (flat (recorded (frozen_at a.stopped.row) (a.due - k) (whole a.stopped.core a.memory.now))) (17 * (a.due - k)) _ done.records ∙ rw m refl;
    }
