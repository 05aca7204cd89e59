-- `interp::signed_less` meets its contract. Assumes nothing.
use Rattle.std.proofs.Common.{sym, ◌∙◌, ap₂}
use lib.Signed.{lt_z}
use Rattle.interp.proofs.values.Readings.{less-signed, reread}
use Rattle.interp.proofs.values.signed_less.Goals as goal

pub returns : goal.returns
returns c =
    let a = c.ranges.a.fits in
    let b = c.ranges.b.fits in
    ap₂ lt_z (reread _ a _ c.cast_signed.ensures) (reread _ b _ c.cast_signed-2.ensures) ∙ sym (less-signed _ _ a b)
