-- The whole number under the root at 53 digits: m with its exponent made even and 52 digits behind it. Assumes nothing.
use Prim.Native.Nat.{ℕ, ◌*◌, ◌%◌, ◌^◌, ◌≤◌, ◌<◌}
use native.Mathlib.Nat.{mul-le-mul_left}
use native.Mathlib.Omega.{arith}
use lib.Pow.{pow_mono, pow_pos}
use Rattle.root.specs.Steps.{near_root}
use Rattle.root.proofs.AnyWidth.{Rounds, root_rounds}

-- an odd exponent doubles m, an even one leaves it
pub record Evened (m k : ℕ) : Type 0 where
  pub least : m ≤ m * 2 ^ (k % 2)
  pub most : m * 2 ^ (k % 2) ≤ m * 2

pub evened : (m k : ℕ) → Evened m k
evened m k =
    let odd : k % 2 ≤ 1 = omega arith in
    let l : m * 1 ≤ m * 2 ^ (k % 2) = mul-le-mul_left m (pow_pos (k % 2)) in
    record { least = omega arith; most = mul-le-mul_left m (pow_mono odd) }

abbrev pub radicand : ℕ → ℕ → ℕ
radicand m k = m * 2 ^ (k % 2) * 2 ^ 52

-- its root has 53 digits, and does not round up to a fifty-fourth
pub root_of-radicand : (m k : ℕ) → 2 ^ 52 ≤ m → m < 2 ^ 53 → Rounds (2 ^ 52) (radicand m k) (near_root (radicand m k))
unfolding near_root
root_of-radicand m k a b = go (m * 2 ^ (k % 2)) (evened m k).least (evened m k).most
  where
    go : (d : ℕ) → m ≤ d → d ≤ m * 2 → Rounds (2 ^ 52) (d * 2 ^ 52) (near_root (d * 2 ^ 52))
    go d l h = root_rounds (2 ^ 52) (d * 2 ^ 52) (omega arith) (omega arith) (omega arith) 53 (omega arith)
