-- The exact sums by units and by the places of the lists are the same numbers. Assumes nothing.
use mathlib.Core.Path.{◌≡◌, refl, sym, ap, ap₂, ◌∙◌, subst}
use mathlib.Core.Bool.{Bool}
use mathlib.Core.List.{List}
use Prim.Native.Nat.{ℕ, zero, suc, ◌+◌, ◌*◌, ◌/◌, ◌^◌, ◌<◌}
use native.Mathlib.Nat.{le_refl, le_step, mul-pos, mul-div_cancel, lt_of_mul-lt-mul_right, zero-mul}
use native.Mathlib.Omega.{arith}
use lib.Dec.{lit<}
use lib.Ieee.{Float, binary64}
use lib.Ieee.Positive.{num, den, den_pos}
use Rattle.double.specs.Operators.{at}
use Rattle.double.specs.Fields.{Sized}
use Rattle.rounding.specs.Units.{units_of}
use Rattle.series.specs.Series.{Signed, Same}
use Rattle.series.proofs.change.SignedArithmetic.{same_times}
use Rattle.certain.proofs.ExactCoordinates.{cross_of_lem}
use Rattle.certain.proofs.power.ExactNumbers.{same_sum}
use Rattle.certain.specs.wide.Sums.{weighed_sum, total, squares_under, squares_over}

abbrev U : ℕ
U = 2 ^ 1074

pub units-by : (x : Float) (s : Bool) (n : ℕ) → Sized x s n → units_of binary64 x ≡ n
units-by x s n h = ap (λ (t : ℕ). t / den x) (cross_of_lem x s n h) ∙ mul-div_cancel n (den_pos x)

-- ---- logarithms

pub record Alike (w v x z : ℕ → Signed) (i : ℕ) : Type 0 where
  pub weights : Same (w i) (v i)
  pub numbers : Same (x i) (z i)
  pub weight-over : 0 < (v i).over
  pub number-over : 0 < (x i).over
  pub exact_over : 0 < (z i).over

module _ (w v x z : ℕ → Signed) where
  pub same_sums : (n : ℕ) → ((i : ℕ) → i < n → Alike w v x z i) → Same (weighed_sum w x n) (weighed_sum v z n)
  unfolding weighed_sum
  same_sums zero h = record { crosswise = refl }
  same_sums (suc n) h =
      let a = h n (le_refl (suc n)) in
      same_sum (same_sums n (λ i k. h i (le_step k))) (same_times a.weight-over a.number-over a.weights a.numbers)

  pub sums_over : (n : ℕ) → ((i : ℕ) → i < n → Alike w v x z i) → 0 < (weighed_sum v z n).over
  unfolding weighed_sum
  sums_over zero h = lit< tt
  sums_over (suc n) h =
      let a = h n (le_refl (suc n)) in
      mul-pos (sums_over n (λ i k. h i (le_step k))) (mul-pos a.weight-over a.exact_over)

-- ---- squares

module _ (xs : List Float) (w : ℕ → ℕ) where
  pub under-pos : (n : ℕ) → 0 < squares_under xs n
  unfolding squares_under
  under-pos zero = lit< tt
  under-pos (suc n) = mul-pos (under-pos n) (mul-pos (den_pos (at xs n)) (den_pos (at xs n)))

  step :
      (c D O N d v z : ℕ) → c * D ≡ O * (z * z) → N * z ≡ v * d
      → (c + v * v) * (D * (d * d)) ≡ (O * (d * d) + N * N * D) * (z * z)
  step c D O N d v z e f =
      first c v D d ∙ ap₂ (λ (s t : ℕ). s * (d * d) + t * D) e (ap₂ ◌*◌ (sym f) (sym f)) ∙ last O z d N D
    where
      first : (c v D d : ℕ) → (c + v * v) * (D * (d * d)) ≡ c * D * (d * d) + v * d * (v * d) * D
      first c v D d = omega arith

      last : (O z d N D : ℕ) → O * (z * z) * (d * d) + N * z * (N * z) * D ≡ (O * (d * d) + N * N * D) * (z * z)
      last O z d N D = omega arith

  pub squares_cross :
      (n : ℕ) → ((i : ℕ) → i < n → num (at xs i) * U ≡ w i * den (at xs i))
      → total (λ (i : ℕ). w i * w i) n * squares_under xs n ≡ squares_over xs n * (U * U)
  unfolding total squares_under squares_over
  squares_cross zero h = none_yet (U * U)
    where
      none_yet : (z : ℕ) → 0 * 1 ≡ 0 * z
      none_yet z = omega arith
  squares_cross (suc n) h =
      step (total (λ (i : ℕ). w i * w i) n) (squares_under xs n) (squares_over xs n) (num (at xs n)) (den (at xs n)) (w n) U
      (squares_cross n (λ i k. h i (le_step k))) (h n (le_refl (suc n)))

-- a product is above zero with its factors
pub crossed_pos : (a b c d : ℕ) → a * b ≡ c * d → 0 < a → 0 < b → 0 < c
crossed_pos a b c d e pa pb =
    lt_of_mul-lt-mul_right d (subst (λ (t : ℕ). t < c * d) (sym (zero-mul d)) (subst (λ (t : ℕ). 0 < t) e (mul-pos pa pb)))
