-- `interp::shift_right_signed` meets its contract. Assumes nothing.
use Rattle.std.proofs.Common.{ℕ, ◌^◌, ℤ, bit_and, ap, ◌∙◌}
use Rattle.std.specs.Int.{w64, cast_unsigned, cast_signed}
use lib.Signed.{shr_z}
use Rattle.interp.specs.Readings.{signed_word}
use Rattle.interp.proofs.values.Words.{mask6}
use Rattle.interp.proofs.values.Readings.{reread, shifted}
use Rattle.interp.proofs.values.shift_right_signed.Goals as goal

pub returns : goal.returns
returns c =
    let x = c.args.x in
    let fits = c.ranges.x.fits in
    let bits : ℤ → ℕ → ℕ = λ z k. cast_unsigned w64 (cast_signed w64 (cast_unsigned w64 (shr_z z (2 ^ k)))) in
    c.cast_unsigned.ensures
    ∙ ap (λ (z : ℤ). bits z (bit_and c.args.k 63)) (reread x fits _ c.cast_signed.ensures)
    ∙ ap (bits (signed_word x)) (mask6 c.args.k)
    ∙ shifted x _ fits
