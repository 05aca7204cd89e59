use Rattle.std.proofs.Common.{◌≡◌, ◌+◌, ◌-◌, ◌*◌, ◌%◌, min, ap, ◌∙◌, arith}
use Rattle.interp.specs.Values.{store_width, merge, store_value}
use Rattle.interp.proofs.values.Words.{mask3, masks}
use Rattle.interp.proofs.values.Stores.{masked}
use Rattle.interp.proofs.values.store_value.Goals as goal

pub returns : goal.returns
unfolding store_value
returns c =
    let a = c.args in
    let k = 8 * (a.off % 8) in
    let p = 64 - k in
    let e : p + k ≡ 64 = omega arith in
    let q : min (8 * store_width a.funct3) p ≡ 8 * min (store_width a.funct3) (8 - a.off % 8) = omega arith in
    simp (c.ones_of.ensures, masks) (rw e at (masked a.old a.src (8 * store_width a.funct3) p k (rw e c.ranges.old.fits)) ∙ ap (merge a.old a.src k) q)

pub overflow_cast-k : goal.overflow_cast-k
overflow_cast-k c = omega (arith, mask3 c.args.off)

pub overflow_mul-k : goal.overflow_mul-k
overflow_mul-k c = omega (arith, mask3 c.args.off)

pub overflow_shl-mask : goal.overflow_shl-mask
overflow_shl-mask c = omega (arith, mask3 c.args.off)

pub overflow_shl-result : goal.overflow_shl-result
overflow_shl-result c = omega (arith, mask3 c.args.off)
