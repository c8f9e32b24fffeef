-- The factors of the margins, and the margin that both power cones have. Definitions only, and the statement that the names are right.
use Rattle.std.specs.Prelude.{◌≡◌, Float}
use Rattle.std.specs.Float.{binary64}
use Rattle.std.specs.Float.Ieee.{of_bits}
use Rattle.double.specs.Operators.{◌⊕◌, ◌⊗◌}
use Rattle.double.specs.Numbers.{pow2}

-- 02, Order 5: "Margin for the exponential cone .. 2^-40·(..)"
abbrev pub #2⁻⁴⁰ : Float
#2⁻⁴⁰ = of_bits binary64 0x3d70_0000_0000_0000

abbrev pub #2⁻³⁰ : Float
#2⁻³⁰ = of_bits binary64 0x3e10_0000_0000_0000

-- Each name is the number that it stands for.
pub record FactorsRight : Type 0 where
  pub exponential_right : #2⁻⁴⁰ ≡ pow2 40
  pub power_right : #2⁻³⁰ ≡ pow2 30

-- 02, Order 5: "For both power cones it is 2^-30·(the exponential plus the sumsq)." The part is a parameter for `certain`, which asks how
-- small it may be.
abbrev pub margin_of : Float → Float → Float → Float
margin_of part power square = part ⊗ (power ⊕ square)

unfoldable pub power_margin : Float → Float → Float
power_margin power square = margin_of #2⁻³⁰ power square
