-- `magnetar_cpu::write_cursor` meets its contract. Assumes nothing.
use mathlib.Core.Path.{◌≡◌, ap, ap₂, ◌∙◌}
use mathlib.Core.List.{List, [], ◌∷◌, ◌++◌}
use Prim.Native.Nat.{ℕ}
use native.Mathlib.Omega.{arith}
use borrow.Rule.Slice.PartMut.{put_mid, post_of}
use Rattle.magnetar_cpu.specs.Image.{image_of, numbers_of}
use Rattle.magnetar_cpu.proofs.Images.{cast, written}
use Rattle.magnetar_cpu.proofs.write_cursor.Goals as goal

pub returns : goal.returns
unfolding image_of
returns c =
    let from = c.args.c in
    let image = c.args.image.now in
    let numbers : c.copy_from_slice-3.new.self ≡ numbers_of from =
    c.copy_from_slice-3.ensures.after
    ∙ ap (λ (h : ℕ). from.micro_pc.0 ∷ from.cycles ∷ h ∷ from.output ∷ from.next_fetch.0 ∷ []) (cast from.halted)
    in
    ap₂ (λ (a b : List ℕ). put_mid 320 5 (put_mid 64 256 (a ++ post_of 0 64 image) c.copy_from_slice-2.new.self) b) c.copy_from_slice.ensures.after numbers
    ∙ ap (λ (l : List ℕ). put_mid 320 5 (put_mid 64 256 (from.regs ++ post_of 0 64 image) l) (numbers_of from)) c.copy_from_slice-2.ensures.after
    ∙ written image from.regs from.ram (numbers_of from) (omega arith) (omega arith) (omega arith) (omega arith)
