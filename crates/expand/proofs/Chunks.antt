-- A list cut into parts of n. Assumes nothing.
use Rattle.std.proofs.Common.{◌≡◌, ℕ, zero, suc, ◌+◌, ◌*◌, ◌/◌, ◌<◌, List, [], length, get_or, take, drop, refl, ap, ◌∙◌, arith}
use lib.Seq.{drop-drop}
use Rattle.std.specs.Simd.{first_chunks}
use Rattle.std.proofs.lemmas.List.{get_or-take, get_or-drop}

pub length-chunks : {X : Type 0} (n k : ℕ) (xs : List X) → length (first_chunks n k xs) ≡ k
length-chunks n zero xs = refl
length-chunks n (suc k) xs = ap suc (length-chunks n k (drop n xs))

chunk-at : {X : Type 0} (n k i : ℕ) (xs : List X) → i < k → get_or (first_chunks n k xs) i [] ≡ take n (drop (n * i) xs)
chunk-at n zero i xs h = absurd (omega arith)
chunk-at n (suc k) zero xs h = let e : n * 0 ≡ 0 = omega arith in rw e
chunk-at n (suc k) (suc i) xs h =
    let e : n * suc i ≡ n + n * i = omega arith in
    chunk-at n k i (drop n xs) (omega arith) ∙ rw (drop-drop, e)

-- place j of part i
pub chunk_reads : {X : Type 0} (n : ℕ) (xs : List X) {chunks : List (List X)} (i j place : ℕ) (d : X) → chunks ≡ first_chunks n (length xs / n) xs
    → i < length xs / n → j < n → place ≡ n * i + j → get_or (get_or chunks i []) j d ≡ get_or xs place d
chunk_reads n xs i j place d e h l p = rw (e, p, chunk-at n (length xs / n) i xs h, get_or-take, get_or-drop)
