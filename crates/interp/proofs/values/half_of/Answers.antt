use Rattle.std.proofs.Common.{◌≡◌, ℕ, ◌+◌, ◌*◌, ◌%◌, ◌^◌, ap, ◌∙◌, arith}
use lib.Bits.{bit_or, or_shifted}
use Rattle.interp.specs.Values.{byte}
use Rattle.interp.proofs.values.half_of.Goals as goal

pub returns : goal.returns
returns c =
    let w = c.args.word in
    let i = c.args.off in
    let e : byte w (i + 1) * 2 ^ 8 % 2 ^ 64 ≡ byte w (i + 1) * 2 ^ 8 = omega arith in
    simp (c.byte_of-high.ensures, c.byte_of.ensures) (ap (λ (n : ℕ). bit_or n (byte w i)) e ∙ or_shifted (byte w (i + 1)) 8 (byte w i) (omega arith))
