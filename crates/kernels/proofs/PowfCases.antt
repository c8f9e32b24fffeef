-- The power by the cases of document 01, with l for log x: powf_of is power_at at that l. Assumes nothing.
use mathlib.Core.Path.{◌≡◌, refl, sym, ap}
use mathlib.Core.Bool.{Bool, true, false}
use lib.Ieee.{Float, nan, eq, ne, mul}
use Rattle.double.specs.Operators.{◌⊗◌, ◌≺◌}
use Rattle.double.specs.Numbers.{#0, #1, #2}
use Rattle.double.proofs.NotNan.{nan_of}
use Rattle.kernels.specs.Door.{exp_of, power_at}

module _ (x y l : Float) where
  pub of_zero : eq y #0 ≡ true → #1 ≡ power_at x y l
  unfolding power_at
  of_zero a = simp (a)

  -- for y 1 and 2 as for every other but 0
  pub of_nan : eq y #0 ≡ false → ne x x ≡ true → nan ≡ power_at x y l
  unfolding power_at mul
  of_nan a b = go (eq y #1) (eq y #2) refl refl
    where
      e : x ≡ nan
      e = nan_of x b

      go : (p q : Bool) → eq y #1 ≡ p → eq y #2 ≡ q → nan ≡ power_at x y l
      go true q h k = simp (a, h) (sym e)
      go false true h k = simp (a, h, k) (ap (λ (z : Float). z ⊗ z) (sym e))
      go false false h k = simp (a, h, k, b)

  pub of_one : eq y #0 ≡ false → eq y #1 ≡ true → x ≡ power_at x y l
  unfolding power_at
  of_one a b = simp (a, b)

  pub of_two : eq y #0 ≡ false → eq y #1 ≡ false → eq y #2 ≡ true → x ⊗ x ≡ power_at x y l
  unfolding power_at
  of_two a b c = simp (a, b, c)

  pub of_negative : eq y #0 ≡ false → eq y #1 ≡ false → eq y #2 ≡ false → ne x x ≡ false → (x ≺ #0) ≡ true → nan ≡ power_at x y l
  unfolding power_at
  of_negative a b c d e = simp (a, b, c, d, e)

  pub otherwise : eq y #0 ≡ false → eq y #1 ≡ false → eq y #2 ≡ false → ne x x ≡ false → (x ≺ #0) ≡ false → exp_of (y ⊗ l) ≡ power_at x y l
  unfolding power_at
  otherwise a b c d e = simp (a, b, c, d, e)
