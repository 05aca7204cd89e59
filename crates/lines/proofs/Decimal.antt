-- The digits of a number, and the loop that puts them. Assumes nothing.
use mathlib.Core.Path.{◌≡◌, refl, sym, ap, ◌∙◌}
use mathlib.Core.List.{List, [], ◌∷◌, ◌++◌, append_assoc}
use Prim.Native.Nat.{ℕ, zero, suc, ◌+◌, ◌-◌, ◌*◌, ◌/◌, ◌%◌, ◌^◌, ◌≤◌, ◌<◌}
use mathlib.Core.Logic.{⊎_elim}
use native.Mathlib.Nat.{eq-zero-or-pos, pow-suc}
use native.Mathlib.Omega.{arith}
use native.Mathlib.Numerals.{add-one}
use Rattle.std.proofs.Common.{rules, lt-ltb, Option, None, Some, IfNone, IfSome, unwrap_or}
use Rattle.std.specs.Fmt.{decimal as printed}
use Rattle.std.proofs.lemmas.Fmt.{AppendsLastDigit, decimal_from_appends_wide, decimal_step_wide, decimal_by_steps_wide, length-decimal-le_wide}
use lib.ListN.{length, drop, set, length-append}
use lib.Seq.{drop-cons, lt-length-set, get_or-set_same, drop-set-lt}
use Rattle.lines.specs.Text.{digit, last_digits, digits, decimal}

-- ---- decimal digits

pub appends : AppendsLastDigit digits
unfolding digits
appends = search rules

-- what std's Display prints
pub decimal_is : (n : ℕ) → n < 10 ^ 20 → decimal n ≡ printed n
decimal_is n h = decimal_from_appends_wide digits appends 20 n (omega arith) (length-decimal-le_wide 20 n (omega arith) h (omega arith))

-- the digits in front of the last one are none, or those of a tenth
pub decimal_alone : (n : ℕ) → n < 10 → decimal n ≡ (48 + n % 10) ∷ []
decimal_alone n h = let e : n % 10 ≡ n = omega arith in rw e (appends.one 19 n h)

decimal-last : (n : ℕ) → 10 ≤ n → n < 10 ^ 20 → decimal n ≡ decimal (n / 10) ++ ((48 + n % 10) ∷ [])
decimal-last n h l = decimal_is n l ∙ decimal_step_wide n h (omega arith) ∙ rw (decimal_is (n / 10) (omega arith))

pub digits-few : (k n : ℕ) → length (digits k n) ≤ k
unfolding digits
digits-few zero n = omega arith
digits-few (suc k) n =
    ⊎_elim
    (λ e. rw (appends.one k n (omega arith)) (omega arith))
    (λ p. rw (appends.more k n (omega arith), length-append) (omega (arith, digits-few k (n / 10))))
    (eq-zero-or-pos (n / 10))

-- ---- how many they are

longer : (n : ℕ) → 10 ≤ n → n < 10 ^ 20 → length (decimal n) ≡ length (decimal (n / 10)) + 1
longer n h l = ap length (decimal-last n h l) ∙ length-append (decimal (n / 10)) _

-- a power of ten is no 0
tens : (k : ℕ) → 0 < 10 ^ k
tens zero = omega arith
tens (suc k) = rw pow-suc (omega (arith, tens k))

-- a number below a power of ten has at most as many digits
pub digits_below : (k n : ℕ) → n < 10 ^ 20 → n < 10 ^ suc k → length (decimal n) ≤ suc k
digits_below zero n l h = omega (arith, ap length (decimal_alone n (omega arith)))
digits_below (suc k) n l h =
    let e : 10 ^ suc (suc k) ≡ 10 * 10 ^ suc k = rw pow-suc (omega arith) in
    ⊎_elim
    (λ (z : n / 10 ≡ 0). omega (arith, ap length (decimal_alone n (omega arith))))
    (λ (z : 0 < n / 10). omega (arith, longer n (omega arith) l, digits_below k (n / 10) (omega arith) (omega arith)))
    (eq-zero-or-pos (n / 10))

-- one more than the power of ten that is next below the number
pub digits_by_power : (k n : ℕ) → n < 10 ^ 20 → 10 ^ k ≤ n → n < 10 * 10 ^ k → length (decimal n) ≡ k + 1
digits_by_power zero n l low high = ap length (decimal_alone n (omega arith))
digits_by_power (suc k) n l low high =
    let e : 10 ^ suc k ≡ 10 * 10 ^ k = rw pow-suc (omega arith) in
    let p = tens k in
    longer n (omega arith) l ∙ omega (arith, digits_by_power k (n / 10) (omega arith) (omega arith) (omega arith))

-- as std's logarithm has it
pub digits_by_log : (n : ℕ) (log : Option ℕ) → n < 2 ^ 64 → IfNone log (n ≡ 0) → IfSome log (λ k. 10 ^ k ≤ n) → IfSome log (λ k. n < 10 * 10 ^ k)
    → unwrap_or log 0 + 1 ≡ length (decimal n)
digits_by_log n None f z low high = rw (z, decimal_alone 0 (omega arith))
digits_by_log n (Some k) f z low high = sym (digits_by_power k n (omega arith) low high)

-- ---- the last digits

-- as many of them as there are, in base ten, are the number
pub decimal_filled : (n : ℕ) → n < 10 ^ 20 → last_digits 10 (length (decimal n)) n ≡ decimal n
unfolding last_digits
decimal_filled n h = rw (decimal_is n h) (decimal_by_steps_wide Filled alone last n (omega arith))
  where
    Filled : ℕ → List ℕ → Type 0
    Filled n ds = last_digits 10 (length ds) n ≡ ds

    alone : (n : ℕ) → n < 10 → Filled n ((48 + n) ∷ [])
    alone n h = let e : n % 10 ≡ n = omega arith in rw (e, lt-ltb n 10 h) refl

    last : (n : ℕ) (ds : List ℕ) → 10 ≤ n → Filled (n / 10) ds → Filled n (ds ++ ((48 + n % 10) ∷ []))
    last n ds h f = rw (length-append, add-one, f, lt-ltb (n % 10) 10 (omega arith)) refl

-- ---- the loop that fills a buffer from its end

-- the last i digits of what is left of the number are all that is missing
abbrev pub Filling : ℕ → List ℕ → ℕ → ℕ → List ℕ → Type 0
Filling base all i rest out = last_digits base i rest ++ drop i out ≡ all

module _ (base : ℕ) (all : List ℕ) (rest : ℕ) (out : List ℕ) where
  digit-behind : (i d : ℕ) → i < length out → d ≡ digit (rest % base) → Filling base all (suc i) rest out → Filling base all i (rest / base) (set out i d)
  unfolding last_digits
  digit-behind i d h e f =
      let behind : drop i (set out i d) ≡ d ∷ drop (suc i) out = drop-cons (set out i d) i 0 (lt-length-set out i d h) ∙ rw (get_or-set_same out i d 0 h, drop-set-lt (suc i) out i d (omega arith)) in
      rw (behind, e) (sym (append_assoc (last_digits base i (rest / base)) (digit (rest % base) ∷ []) (drop (suc i) out)) ∙ f)

  -- a digit more is put
  pub digit_put : (i d : ℕ) → 0 < i → i ≤ length out → d ≡ digit (rest % base) → Filling base all i rest out → Filling base all (i - 1) (rest / base) (set out (i - 1) d)
  digit_put i d p h e f =
      let next : suc (i - 1) ≡ i = omega arith in
      digit-behind (i - 1) d (omega arith) e (ap (λ k. last_digits base k rest ++ drop k out) next ∙ f)

  -- none is missing
  pub all-put : (i : ℕ) → i ≡ 0 → Filling base all i rest out → out ≡ all
  unfolding last_digits
  all-put i e f = rw e at f
