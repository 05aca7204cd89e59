-- The mean is the nearest number of hundredths, and of two as near the greater. Assumes nothing.
use mathlib.Core.Path.{◌≡◌, refl, sym, ◌∙◌}
use mathlib.Core.Logic.{⊎_elim}
use Prim.Native.Nat.{ℕ, ◌+◌, ◌-◌, ◌*◌, ◌≤◌, ◌<◌}
use native.Mathlib.Nat.{add-mul, one-mul, mul_comm, mul_assoc, mul-suc, mul-le-mul_left, div-add-mod, mod-lt, eq-zero-or-pos}
use Rattle.std.proofs.Math.Nat.{div-eq_of_lt-le}
use native.Mathlib.Omega.{arith}
use Rattle.run_report.specs.Mean.{half_up, HalfUp, distance, MeanLaws}

bounds : (sum runs : ℕ) → 0 < runs → HalfUp sum runs (half_up sum runs)
unfolding half_up
bounds sum runs h =
    let all = div-add-mod (200 * sum + runs) (2 * runs) in
    let rest = mod-lt (200 * sum + runs) {m = 2 * runs} (omega arith) in
    record { above = omega arith; below = omega arith }

-- one hundredth more or less is a whole 2 * runs off
module _ (sum runs m : ℕ) (h : 0 < runs) (n : HalfUp sum runs m) where
  pub only : m ≡ half_up sum runs
  unfolding half_up
  only =
      let e = mul_comm m (2 * runs) in
      let f : (m + 1) * (2 * runs) ≡ m * (2 * runs) + 2 * runs = add-mul m 1 (2 * runs) ∙ rw one-mul in
      sym (div-eq_of_lt-le {k = m} (2 * runs) (omega (arith, n.below)) (omega (arith, n.above)))

  doubled : 2 * runs * m ≡ 2 * (runs * m)
  doubled = mul_assoc 2 runs m

  -- runs times a greater number
  above : (k : ℕ) → m < k → runs * m + runs ≤ runs * k
  above k l = omega (arith, mul-suc runs m, mul-le-mul_left runs l)

  below : (k : ℕ) → k < m → runs * k + runs ≤ runs * m
  below k l = omega (arith, mul-suc runs k, mul-le-mul_left runs l)

  pub nearest : (k : ℕ) → distance sum runs m ≤ distance sum runs k
  nearest k =
      ⊎_elim
      (λ (z : k - m ≡ 0). ⊎_elim
      (λ (y : m - k ≡ 0). let e : k ≡ m = omega arith in rw e (omega arith))
      (λ (y : 0 < m - k). omega (arith, doubled, n.above, n.below, below k (omega arith)))
      (eq-zero-or-pos (m - k)))
      (λ (z : 0 < k - m). omega (arith, doubled, n.above, n.below, above k (omega arith)))
      (eq-zero-or-pos (k - m))

  pub half : (k : ℕ) → distance sum runs k ≡ distance sum runs m → k ≤ m
  half k e =
      ⊎_elim
      (λ (z : k - m ≡ 0). omega arith)
      (λ (z : 0 < k - m). absurd (omega (arith, e, doubled, n.above, n.below, above k (omega arith))))
      (eq-zero-or-pos (k - m))

pub mean_holds : MeanLaws
unfolding half_up
mean_holds = record {
  bounds = bounds;
  only = only;
  nearest = λ sum runs k h. nearest sum runs (half_up sum runs) h (bounds sum runs h) k;
  half = λ sum runs k h e. half sum runs (half_up sum runs) h (bounds sum runs h) k e;
  one_eighth = refl;
  three_eighths = refl;
}
