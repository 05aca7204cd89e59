-- Laws on words that are copied, and on the image of a cursor. Assumes nothing.
use mathlib.Core.Path.{◌≡◌, refl, ap, ap₂, ◌∙◌}
use mathlib.Core.Bool.{Bool, true, false}
use mathlib.Core.List.{List, ◌++◌, append-nil}
use Prim.Native.Nat.{ℕ}
use native.Mathlib.Omega.{arith}
use mir.Val.{bool_byte}
use lib.ListN.{length, take, drop, length-drop}
use borrow.Rule.Slice.PartMut.{put_mid, post_of}
use Rattle.std.proofs.lemmas.Slice.{take-put_mid, drop-put_mid}
use Rattle.std.proofs.lemmas.List.{drop_all, take-append-le, take_all, length-append}
use Rattle.interp.specs.Values.{bool_word}

-- r, s and vs written one behind the other over all of d
module _ (d r s vs : List ℕ) (hd : length d ≡ 325) (hr : length r ≡ 64) (hs : length s ≡ 256) (hv : length vs ≡ 5) where
  abbrev with_r : List ℕ
  with_r = r ++ post_of 0 64 d

  length_r : length with_r ≡ 325
  length_r = length-append r (post_of 0 64 d) ∙ omega (arith, length-drop 64 d)

  front : take 64 with_r ≡ r
  front = take-append-le 64 r (post_of 0 64 d) (omega arith) ∙ take_all 64 r (omega arith)

  pub written : put_mid 320 5 (put_mid 64 256 with_r s) vs ≡ r ++ s ++ vs
  written =
      ap₂ (λ (a b : List ℕ). a ++ (vs ++ b))
      (take-put_mid 64 256 with_r s 320 (omega arith) (omega (arith, length_r)) ∙ ap (λ (l : List ℕ). l ++ s) front)
      (ap (drop 5) (drop-put_mid 64 256 with_r s 320 (omega arith) (omega (arith, length_r)) hs) ∙ drop_all 5 (drop 320 with_r) (omega (arith, length_r, length-drop 320 with_r)))
      ∙ ap (λ (l : List ℕ). r ++ s ++ l) (append-nil vs)

-- a truth value as a cast gives it
pub cast : (b : Bool) → bool_byte b ≡ bool_word b
cast true = refl
cast false = refl
