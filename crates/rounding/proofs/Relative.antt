-- A fraction rounded to p binary digits is within 2^-p of itself, in the normal range; what is subnormal is within 2^-p of the normal
-- range's least. Assumes nothing.
-- n / den is the fraction in units of the format's smallest value; `kept` * 2 ^ `drop` is what lib.Ieee's `round` makes of it, in the same
-- units, for a format of p digits.
-- Both laws hold against any bound N of n that is in the normal range: N = n gives the relative error, N a smallest normal number covers
-- what is subnormal.
use mathlib.Core.Path.{◌≡◌, refl, ap}
use Prim.Native.Nat.{ℕ, zero, suc, ◌+◌, ◌-◌, ◌*◌, ◌/◌, ◌^◌, ◌≤◌, ◌<◌}
use native.Mathlib.Nat.{le_refl, le_trans, le_of_eq, mul-one, mul_comm, mul_assoc, mul_left_comm, mul-le-mul_left, mul-le-mul_right}
use native.Mathlib.Nat.{mul-pos, le-div_iff_mul-le, two-pow-succ}
use native.Mathlib.Omega.{arith}
use lib.Pow.{pow-add, pow_pos}
use lib.Ieee.{size}
use lib.Ieee.Digits.{size_reaches}
use lib.Ieee.Order.{drop, kept}
use Rattle.rounding.specs.Within.{Within}
use Rattle.rounding.proofs.Nearest.{closest_half}

-- half a unit of the last place that is kept is at most N / 2^p
place_small : (p n den N : ℕ) → 0 < p → 0 < den → n ≤ N → 2 ^ (p - 1) * den ≤ N → den * 2 ^ drop p n den * 2 ^ p ≤ 2 * N
place_small zero n den N P D h normal = omega arith
place_small (suc p) n den N P D h normal =
    le_trans (le_of_eq (ap (λ (x : ℕ). den * 2 ^ drop (suc p) n den * x) (two-pow-succ p)))
    (le_trans (omega arith) (mul-le-mul_left 2 (go (drop (suc p) n den) refl)))
  where
    less : (p : ℕ) → p ≡ suc p - 1
    less p = omega arith

    few : (z k : ℕ) → 0 < k → z - suc p ≡ k → p + k < z
    few z k K e = omega arith

    go : (k : ℕ) → drop (suc p) n den ≡ k → den * 2 ^ k * 2 ^ p ≤ N
    go zero e = le_trans (le_of_eq (simp (mul_comm, mul-one) (ap (λ (j : ℕ). den * 2 ^ j) (less p)))) normal
    go (suc k) e =
        let r : 2 ^ (p + suc k) ≤ n / den = size_reaches (n / den) (p + suc k) (few (size (n / den)) (suc k) (omega arith) e) in
        le_trans (le_of_eq (simp (pow-add, mul_assoc, mul_comm, mul_left_comm))) (le_trans ((le-div_iff_mul-le D).0 r) h)

pub kept_near :
    (p n den N : ℕ) → 0 < p → 0 < den → n ≤ N → 2 ^ (p - 1) * den ≤ N → Within (kept p n den * 2 ^ drop p n den * den * 2 ^ p) (n * 2 ^ p) N
kept_near p n den N P D h normal =
    let k : ℕ = drop p n den in
    scaled (kept p n den) den (2 ^ k) (2 ^ p) n N (closest_half n (den * 2 ^ k) (mul-pos D (pow_pos k)))
    (place_small p n den N P D h normal)
  where
    scaled : (q d k z n N : ℕ) → Within (2 * (q * (d * k))) (2 * n) (d * k) → d * k * z ≤ 2 * N → Within (q * k * d * z) (n * z) N
    scaled q d k z n N w u = record {
      not-above = omega (arith, mul-le-mul_right z w.not-above);
      not-below = omega (arith, mul-le-mul_right z w.not-below);
    }

-- in the normal range, where the whole part of n / den has all p digits
pub rounded : (p n den : ℕ) → 0 < den → 0 < p → p ≤ size (n / den) → Within (kept p n den * 2 ^ drop p n den * den * 2 ^ p) (n * 2 ^ p) n
rounded p n den D P h =
    kept_near p n den n P D (le_refl n) ((le-div_iff_mul-le D).0 (size_reaches (n / den) (p - 1) (last p (size (n / den)) P h)))
  where
    last : (p z : ℕ) → 0 < p → p ≤ z → p - 1 < z
    last p z P h = omega arith

-- the factor that made n of N is at most s / t: then the result is at most N / den times s / t + 2^-p
pub kept_shrinks : (p n den N s t : ℕ) → 0 < p → 0 < den → n ≤ N → n * t ≤ N * s → 2 ^ (p - 1) * den ≤ N
    → kept p n den * 2 ^ drop p n den * (t * 2 ^ p) * den ≤ N * (s * 2 ^ p + t)
kept_shrinks p n den N s t P D h st normal =
    scaled (kept p n den * 2 ^ drop p n den) (2 ^ p) (mul-le-mul_right t (kept_near p n den N P D h normal).not-above)
    (mul-le-mul_right (2 ^ p) st)
  where
    scaled : (g z : ℕ) → g * den * z * t ≤ (n * z + N) * t → n * t * z ≤ N * s * z → g * (t * z) * den ≤ N * (s * z + t)
    scaled g z a b = omega arith
