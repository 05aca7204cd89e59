-- The claims: the forms that read a word as a signed number are those of ℤ. Assumes nothing.
use Rattle.std.proofs.Common.{◌≡◌, ℕ, zero, suc, ◌-◌, ◌/◌, ◌^◌, ◌<◌, ◌≤◌, ltb, ℤ, pos, negsuc, ◌+ℤ◌, neg_ℤ, sym, refl, ap, ◌∙◌, ap₂, ⊎_elim, mod-eq_of_lt, arith, le-ltb, lt-ltb}
use Rattle.std.specs.Int.{w64, cast_unsigned, cast_signed}
use Rattle.std.proofs.lemmas.Int.{to_z_pos, of_z-to_z}
use lib.Signed.{lt_z, shr_z, quot_z}
use lib.Pow.{shr_le}
use Rattle.interp.specs.Values.{plus, less, signed_right, quarter_on}
use Rattle.interp.specs.Readings.{signed_word, clamp, Signed}
use Rattle.interp.proofs.values.Words.{lt_or_ge}
use Rattle.interp.proofs.values.Shifts.{below, above, in_turn}

-- ---- the signed number of a word, in each half

pub signed_low : (x : ℕ) → x < 2 ^ 63 → signed_word x ≡ pos x
signed_low x h = rw (lt-ltb x (2 ^ 63) h)

pub signed_high : (x : ℕ) → 2 ^ 63 ≤ x → x < 2 ^ 64 → signed_word x ≡ negsuc (2 ^ 64 - suc x)
signed_high x l h = rw (le-ltb x (2 ^ 63) l, lt-ltb x (2 ^ 64) h)

-- a word that std casts to a signed number, and a signed number that it casts back
word-signed : (x : ℕ) → x < 2 ^ 64 → cast_signed w64 x ≡ signed_word x
word-signed x h =
    ⊎_elim (λ l. to_z_pos w64 x l ∙ sym (signed_low x l)) (λ l. high l ∙ sym (signed_high x l h)) (lt_or_ge x (2 ^ 63))
  where
    high : 2 ^ 63 ≤ x → cast_signed w64 x ≡ negsuc (2 ^ 64 - suc x)
    high l = rw (le-ltb x (2 ^ 63) l) refl

back : (x : ℕ) → x < 2 ^ 64 → cast_unsigned w64 (signed_word x) ≡ x
back x h = ap (cast_unsigned w64) (sym (word-signed x h)) ∙ of_z-to_z w64 x h

pub reread : (x : ℕ) → x < 2 ^ 64 → (z : ℤ) → z ≡ cast_signed w64 x → cast_signed w64 (cast_unsigned w64 z) ≡ signed_word x
reread x h z e =
    ap (λ (n : ℤ). cast_signed w64 (cast_unsigned w64 n)) (e ∙ word-signed x h) ∙ ap (cast_signed w64) (back x h) ∙ word-signed x h

-- ---- the order

same_test : (a b c d : ℕ) → (a < b → c < d) → (b ≤ a → d ≤ c) → ltb a b ≡ ltb c d
same_test a b c d f g = ⊎_elim (λ h. lt-ltb a b h ∙ sym (lt-ltb c d (f h))) (λ h. le-ltb a b h ∙ sym (le-ltb c d (g h))) (lt_or_ge a b)

pub less-signed : (a b : ℕ) → a < 2 ^ 64 → b < 2 ^ 64 → less a b ≡ lt_z (signed_word a) (signed_word b)
less-signed a b ha hb =
    let x = plus a (2 ^ 63) in
    let y = plus b (2 ^ 63) in
    ⊎_elim
    (λ la. ⊎_elim
    (λ lb. same_test x y a b (omega arith) (omega arith) ∙ sym (ap₂ lt_z (signed_low a la) (signed_low b lb)))
    (λ lb. le-ltb x y (omega arith) ∙ sym (ap₂ lt_z (signed_low a la) (signed_high b lb hb)))
    (lt_or_ge b (2 ^ 63)))
    (λ la. ⊎_elim
    (λ lb. lt-ltb x y (omega arith) ∙ sym (ap₂ lt_z (signed_high a la ha) (signed_low b lb)))
    (λ lb. same_test x y (2 ^ 64 - suc b) (2 ^ 64 - suc a) (omega arith) (omega arith) ∙ sym (ap₂ lt_z (signed_high a la ha) (signed_high b lb hb)))
    (lt_or_ge b (2 ^ 63)))
    (lt_or_ge a (2 ^ 63))

-- ---- the shift that keeps the sign

floor : (a k : ℕ) → a < 2 ^ 64 → signed_word (signed_right a k) ≡ shr_z (signed_word a) (2 ^ k)
floor a k h =
    ⊎_elim
    (λ l.
    let m : a / 2 ^ k ≤ a = shr_le a k in
    ap signed_word (below a k l) ∙ signed_low (a / 2 ^ k) (omega arith) ∙ ap (λ (z : ℤ). shr_z z (2 ^ k)) (sym (signed_low a l)))
    (λ l.
    let y = 2 ^ 64 - 1 - a in
    let z = y / 2 ^ k in
    let m : z ≤ y = shr_le y k in
    let e : 2 ^ 64 - suc (2 ^ 64 - 1 - z) ≡ z = omega arith in
    let f : y ≡ 2 ^ 64 - suc a = omega arith in
    ap signed_word (above a k l) ∙ signed_high (2 ^ 64 - 1 - z) (omega arith) (omega arith) ∙ ap negsuc (e ∙ ap (λ (n : ℕ). n / 2 ^ k) f)
    ∙ ap (λ (n : ℤ). shr_z n (2 ^ k)) (sym (signed_high a l h)))
    (lt_or_ge a (2 ^ 63))

shifted_fits : (x k : ℕ) → x < 2 ^ 64 → signed_right x k < 2 ^ 64
shifted_fits x k h = ⊎_elim (λ l. omega (arith, h, below x k l, shr_le x k)) (λ l. omega (arith, above x k l)) (lt_or_ge x (2 ^ 63))

-- std's shift of the signed number, cast back
pub shifted : (x k : ℕ) → x < 2 ^ 64
    → cast_unsigned w64 (cast_signed w64 (cast_unsigned w64 (shr_z (signed_word x) (2 ^ k)))) ≡ signed_right x k
shifted x k h =
    let s = signed_right x k in
    let f = shifted_fits x k h in
    ap (λ (z : ℤ). cast_unsigned w64 (cast_signed w64 (cast_unsigned w64 z))) (sym (floor x k h))
    ∙ ap (λ (n : ℕ). cast_unsigned w64 (cast_signed w64 n)) (back s f) ∙ of_z-to_z w64 s f

-- ---- a quarter of the signed number, towards zero

clamp-sub : (m q : ℕ) → m - q ≡ clamp (pos m +ℤ neg_ℤ (pos q))
clamp-sub m zero = omega arith
clamp-sub m (suc q) = ⊎_elim (λ h. rw (lt-ltb m (suc q) h) (omega arith)) (λ h. rw (le-ltb m (suc q) h) (omega arith)) (lt_or_ge m (suc q))

quarters : (mp imm : ℕ) → mp < 2 ^ 61 → imm < 2 ^ 64 → quarter_on mp imm ≡ clamp (pos mp +ℤ quot_z (signed_word imm) (pos 4))
unfolding quarter_on
quarters mp imm m h =
    ⊎_elim
    (λ l. rw (signed_low imm l, lt-ltb imm (2 ^ 63) l) (mod-eq_of_lt (omega arith)))
    (λ l.
    let e : (2 ^ 64 - imm) / 4 ≡ suc (2 ^ 64 - suc imm) / 4 = omega arith in
    rw (signed_high imm l h, le-ltb imm (2 ^ 63) l, e) (clamp-sub mp (suc (2 ^ 64 - suc imm) / 4)))
    (lt_or_ge imm (2 ^ 63))

-- ---- the claims

pub signed_claims : Signed
signed_claims = record { order = less-signed; floor = floor; quarter = quarters; stages = in_turn }
