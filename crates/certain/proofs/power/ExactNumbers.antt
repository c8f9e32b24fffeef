-- The exact numbers by units and by the coordinates are the same numbers. Assumes nothing.
use mathlib.Core.Path.{◌≡◌, refl, sym, ap, ap₂, ◌∙◌, subst}
use mathlib.Core.Bool.{Bool, false}
use mathlib.Core.Logic.{◌⊎◌, inl, inr}
use Prim.Native.Nat.{ℕ, ◌+◌, ◌-◌, ◌*◌, ◌^◌, ◌≤◌, ◌<◌}
use native.Mathlib.Nat.{mul-pos, add-sub_of_le, eq-zero-or-pos, lt_irrefl, zero-mul}
use native.Mathlib.Omega.{arith}
use lib.Pow.{pow_pos}
use lib.Ieee.{Float}
use lib.Ieee.Positive.{num, den, den_pos}
use Rattle.double.specs.Fields.{Sized, Units}
use Rattle.series.specs.Series.{Signed, Same, lOf}
use Rattle.series.proofs.SameFraction.{L-of_equal}
use Rattle.series.specs.change.SignedArithmetic.{times, minus, AboveZero}
use Rattle.series.proofs.change.SignedArithmetic.{same_through, same_times, same_minus, above_moves}
use Rattle.certain.specs.Coordinates.{exact_of}
use Rattle.certain.proofs.ExactCoordinates.{in_units, units_exact, exact_over, cross_of_lem, num_pos_of}
use Rattle.certain.specs.power.Numbers.{sum, two, one, l_of_one, l_of_square}

abbrev U : ℕ
U = 2 ^ 1074

-- ---- sums

sum_shape :
    (p l o p' l' o' q m w q' m' w' : ℕ) → p * o' + l' * o ≡ p' * o + l * o' → q * w' + m' * w ≡ q' * w + m * w'
    → (p * w + q * o) * (o' * w') + (l' * w' + m' * o') * (o * w) ≡ (p' * w' + q' * o') * (o * w) + (l * w + m * o) * (o' * w')
sum_shape p l o p' l' o' q m w q' m' w' e f =
    before p o' l' o q w' m' w ∙ ap₂ (λ (s t : ℕ). s * (w * w') + t * (o * o')) e f ∙ after p' o l o' q' w m w'
  where
    before :
        (p o' l' o q w' m' w : ℕ)
        → (p * w + q * o) * (o' * w') + (l' * w' + m' * o') * (o * w) ≡ (p * o' + l' * o) * (w * w') + (q * w' + m' * w) * (o * o')
    before p o' l' o q w' m' w = omega arith

    after :
        (p' o l o' q' w m w' : ℕ)
        → (p' * o + l * o') * (w * w') + (q' * w + m * w') * (o * o') ≡ (p' * w' + q' * o') * (o * w) + (l * w + m * o) * (o' * w')
    after p' o l o' q' w m w' = omega arith

pub same_sum : {x x' y y' : Signed} → Same x x' → Same y y' → Same (sum x y) (sum x' y')
same_sum {x} {x'} {y} {y'} e f = record {
  crosswise =
      sum_shape x.plus x.less x.over x'.plus x'.less x'.over y.plus y.less y.over y'.plus y'.less
      y'.over e.crosswise f.crosswise;
}

-- ---- the weights

pub same_itself : (x : Signed) → Same x x
same_itself x = record { crosswise = refl }

-- 2n units are twice what n units are
pub same_twice : (n : ℕ) (x : Signed) → 0 < x.over → Same (in_units false n) x → Same (in_units false (2 * n)) (times two x)
same_twice n x px e =
    same_through (mul-pos {m = 1} (pow_pos 0) (pow_pos 1074)) (record { crosswise = shape n U })
    (same_times (pow_pos 0) (pow_pos 1074) (same_itself two) e)
  where
    shape : (n z : ℕ) → 2 * n * (1 * z) + (2 * 0 + 0 * n) * z ≡ (2 * n + 0 * 0) * z + 0 * (1 * z)
    shape n z = omega arith

pub same_less : (A : ℕ) (x : Signed) → 0 < x.over → A ≤ U → Same (in_units false A) x → Same (in_units false (U - A)) (minus one x)
same_less A x px l e =
    same_through (mul-pos {m = 1} (pow_pos 0) (pow_pos 1074)) (record { crosswise = shape A U (U - A) (add-sub_of_le l) })
    (same_minus (pow_pos 0) (pow_pos 1074) (same_itself one) e)
  where
    shape : (A z B : ℕ) → A + B ≡ z → B * (1 * z) + (0 * z + A * 1) * z ≡ (1 * z + 0 * 1) * z + 0 * (1 * z)
    shape A z B e = go (omega (arith, ap (λ (t : ℕ). t * z) e))
      where
        go : A * z + B * z ≡ z * z → B * (1 * z) + (0 * z + A * 1) * z ≡ (1 * z + 0 * 1) * z + 0 * (1 * z)
        go h = omega arith

-- ---- L

pub one_exact : (x : Float) (s : Bool) (a : ℕ) → 0 < a → Sized x s a → Same (lOf a U) (l_of_one x)
one_exact x s a pa h = L-of_equal a U (num x) (den x) pa (pow_pos 1074) (num_pos_of x s a pa h) (den_pos x) (sym (cross_of_lem x s a h))

pub square_exact : (x : Float) (s : Bool) (w : ℕ) → 0 < w → Sized x s w → Same (lOf (w * w) (U * U)) (l_of_square x)
square_exact x s w pw h =
    L-of_equal (w * w) (U * U) (num x * num x) (den x * den x) (mul-pos pw pw) (mul-pos (pow_pos 1074) (pow_pos 1074))
    (mul-pos (num_pos_of x s w pw h) (num_pos_of x s w pw h)) (mul-pos (den_pos x) (den_pos x))
    (shape w (den x) (num x) U (cross_of_lem x s w h))
  where
    shape : (w d n z : ℕ) → n * z ≡ w * d → w * w * (d * d) ≡ n * n * (z * z)
    shape w d n z e = first w d ∙ ap₂ ◌*◌ (sym e) (sym e) ∙ second n z
      where
        first : (w d : ℕ) → w * w * (d * d) ≡ w * d * (w * d)
        first w d = omega arith

        second : (n z : ℕ) → n * z * (n * z) ≡ n * n * (z * z)
        second n z = omega arith

-- ---- signs

pub units-above : (x : Float) (a : ℕ) → 0 < a → Units x a → AboveZero (exact_of x)
units-above x a pa h = above_moves (exact_over x) (units_exact x false a h) pa

pub units-some : (x : Float) (s : Bool) (w : ℕ) → Sized x s w → 0 < num x → 0 < w
units-some x s w h p = go (eq-zero-or-pos w)
  where
    go : (w ≡ 0) ⊎ (0 < w) → 0 < w
    go (inl e) =
        absurd (lt_irrefl 0 (subst (λ (z : ℕ). 0 < z) (cross_of_lem x s w h ∙ ap (λ (z : ℕ). z * den x) e ∙ zero-mul (den x))
        (mul-pos p (pow_pos 1074))))
    go (inr l) = l

-- a square above zero is that of a number above zero
pub root_some : (w : ℕ) → 0 < w * w → 0 < w
root_some w p = go (eq-zero-or-pos w)
  where
    go : (w ≡ 0) ⊎ (0 < w) → 0 < w
    go (inl e) = absurd (lt_irrefl 0 (subst (λ (z : ℕ). 0 < z * z) e p))
    go (inr l) = l
