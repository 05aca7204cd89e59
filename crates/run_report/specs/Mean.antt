-- The mean of a report (02, T-04), and what is claimed of it. The function `mean_laws` of src/mean.rt has the whole for its
-- contract. Assumes nothing: these are definitions.
use Rattle.std.specs.Prelude.{ℕ, ◌+◌, ◌-◌, ◌*◌, ◌/◌, ◌≤◌, ◌<◌, ◌≡◌}

-- 100 * sum / runs to the nearest whole number, a half going up
unfoldable pub half_up : ℕ → ℕ → ℕ
half_up sum runs = (200 * sum + runs) / (2 * runs)

-- the mean in hundredths
abbrev pub mean_of : ℕ → ℕ → ℕ
mean_of sum runs = half_up sum runs

-- m is at most half a hundredth above 100 * sum / runs, and less than half a hundredth below it; both times 2 * runs
pub record HalfUp (sum runs m : ℕ) : Type 0 where
  pub above : 2 * runs * m ≤ 200 * sum + runs
  pub below : 200 * sum < 2 * runs * m + runs

-- how far m is from 100 * sum / runs, times runs
abbrev pub distance : ℕ → ℕ → ℕ → ℕ
distance sum runs m = (100 * sum - runs * m) + (runs * m - 100 * sum)

-- the contract of `mean_laws`, for every sum and every number of runs
pub record MeanLaws : Type 0 where
  -- it is within these bounds, and no other number is
  pub bounds : (sum runs : ℕ) → 0 < runs → HalfUp sum runs (mean_of sum runs)
  pub only : (sum runs m : ℕ) → 0 < runs → HalfUp sum runs m → m ≡ mean_of sum runs
  -- no number is nearer, and of two as near it is the greater
  pub nearest : (sum runs m : ℕ) → 0 < runs → distance sum runs (mean_of sum runs) ≤ distance sum runs m
  pub half : (sum runs m : ℕ) → 0 < runs → distance sum runs m ≡ distance sum runs (mean_of sum runs) → m ≤ mean_of sum runs
  -- one over eight, and three over eight
  pub one_eighth : mean_of 1 8 ≡ 13
  pub three_eighths : mean_of 3 8 ≡ 38
