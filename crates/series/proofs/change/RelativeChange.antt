-- The law that carries a quotient's rounding: |L(x(1+d)) - L(x)| ≤ 2|d|. Assumes nothing.
use mathlib.Core.Path.{◌≡◌, sym, subst}
use Prim.Native.Nat.{ℕ, ◌+◌, ◌-◌, ◌*◌, ◌≤◌, ◌<◌}
use native.Mathlib.Nat.{mul-le-mul_left, mul-le-mul_right, le_of_mul-le-mul_left}
use native.Mathlib.Decide.{dec_lt}
use native.Mathlib.Omega.{arith}
use Rattle.series.specs.Series.{Signed, lOf}
use Rattle.series.specs.change.Distances.{Apart}
use Rattle.series.proofs.change.Lipschitz.{Nearby, L-nearby}

far_shape : (a e k X Y Z : ℕ) → 0 < a → e * k ≤ a → a * Y ≤ a * X + e * Z → k * Y ≤ k * X + 1 * Z
far_shape a e k X Y Z pa small h =
    le_of_mul-le-mul_left {k = a} (joined a e k X Y Z (mul-le-mul_left k h) (mul-le-mul_right Z small)) pa
  where
    joined : (a e k X Y Z : ℕ) → k * (a * Y) ≤ k * (a * X + e * Z) → e * k * Z ≤ a * Z → a * (k * Y) ≤ a * (k * X + 1 * Z)
    joined a e k X Y Z h s = omega arith

near_shape : (k X Y Z : ℕ) → 1 * Y ≤ 1 * X + 0 * Z → k * Y ≤ k * X + 1 * Z
near_shape k X Y Z h = omega (arith, mul-le-mul_left k h)

-- x + h by h at most x/k
apart_of : {a e k : ℕ} {x y : Signed} → 0 < a → e * k ≤ a → Nearby a e x y → Apart k x y
apart_of {a} {e} {k} pa small n = record { ahead = far_shape a e k _ _ _ pa small n.not_far; behind = near_shape k _ _ _ n.not-below }

swapped : {k : ℕ} {x y : Signed} → Apart k x y → Apart k y x
swapped p = record { ahead = p.behind; behind = p.ahead }

-- x = a/c and x(1+d) = g/c with |d| ≤ 1/2k: the logarithms are at most 1/k apart
pub L-relative :
    (a g c k : ℕ) → 0 < a → 0 < g → 0 < c → 0 < k → g * (2 * k) ≤ a * (2 * k) + a → a * (2 * k) ≤ g * (2 * k) + a
    → Apart k (lOf a c) (lOf g c)
L-relative a g c k pa pg pc pk hi lo = go (dec_lt g a)
  where
    moved_up : (e : ℕ) → a + e ≡ g → e * k ≤ a → e ≤ a → Apart k (lOf a c) (lOf g c)
    moved_up e s small l = subst (λ (t : ℕ). Apart k (lOf a c) (lOf t c)) s (apart_of pa small (L-nearby a e c pa pc l))

    moved_down : (e : ℕ) → g + e ≡ a → e * k ≤ g → e ≤ g → Apart k (lOf a c) (lOf g c)
    moved_down e s small l = swapped (subst (λ (t : ℕ). Apart k (lOf g c) (lOf t c)) s (apart_of pg small (L-nearby g e c pg pc l)))

    up_small : (a e k : ℕ) → (a + e) * (2 * k) ≤ a * (2 * k) + a → e * k ≤ a
    up_small a e k h = omega arith

    down_small : (g e k : ℕ) → 0 < k → (g + e) * (2 * k) ≤ g * (2 * k) + (g + e) → e * k ≤ g
    down_small g e k pk h = omega (arith, mul-le-mul_left e pk)

    once : (e k a : ℕ) → 0 < k → e * k ≤ a → e ≤ a
    once e k a pk h = omega (arith, mul-le-mul_left e pk)

    over : (a g : ℕ) → (g < a → ⊥) → a + (g - a) ≡ g
    over a g n = omega arith

    under : (a g : ℕ) → g < a → g + (a - g) ≡ a
    under a g l = omega arith

    go : Dec (g < a) → Apart k (lOf a c) (lOf g c)
    go (yes l) =
        let s : g + (a - g) ≡ a = under a g l in
        let small : (a - g) * k ≤ g = down_small g (a - g) k pk (subst (λ (t : ℕ). t * (2 * k) ≤ g * (2 * k) + t) (sym s) lo) in
        moved_down (a - g) s small (once (a - g) k g pk small)
    go (no n) =
        let s : a + (g - a) ≡ g = over a g n in
        let small : (g - a) * k ≤ a = up_small a (g - a) k (subst (λ (t : ℕ). t * (2 * k) ≤ a * (2 * k) + a) (sym s) hi) in
        moved_up (g - a) s small (once (g - a) k a pk small)
