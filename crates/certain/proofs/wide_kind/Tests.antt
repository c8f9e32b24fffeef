-- Both tests of the generalized power cone at once, over any terms p that are near their exact ones or infinite. Assumes nothing.
use mathlib.Core.Path.{◌≡◌, refl, sym, ap, ◌∙◌, subst}
use mathlib.Core.Bool.{true, false}
use mathlib.Core.List.{List}
use mathlib.Core.Logic.{◌⊎◌}
use Prim.Native.Nat.{ℕ, zero, suc, ◌+◌, ◌*◌, ◌^◌, ◌≤◌, ◌<◌}
use native.Mathlib.Nat.{le_trans, le_of_eq, mul-pos, mul-add}
use native.Mathlib.Omega.{arith}
use lib.Dec.{T}
use lib.Pow.{pow_pos}
use lib.ListN.{length}
use lib.Ieee.{Float, inf, binary64, neg}
use lib.Ieee.Positive.{den}
use Rattle.double.specs.Operators.{◌⊖◌, ◌⊗◌, ◌≺◌, at}
use Rattle.rounding.specs.Units.{units_of}
use Rattle.series.specs.Series.{Signed, Same, lOf}
use Rattle.series.proofs.SameFraction.{L-of_equal}
use Rattle.series.proofs.SignedFractions.{over_pos_of}
use Rattle.series.specs.change.SignedArithmetic.{minus, BelowZero}
use Rattle.series.proofs.change.SignedArithmetic.{same_minus, above_moves, below_moves}
use Rattle.exponential.specs.Steps.{exp_of}
use Rattle.algebra.specs.Vectors.{sumsq_of}
use Rattle.cone.specs.verdict.Margins.{margin_of}
use Rattle.certain.proofs.power.Margins.{Counted, wide_errors}
use Rattle.certain.proofs.ExactCoordinates.{in_units, cross_of_lem}
use Rattle.certain.proofs.power.Coordinates.{Fine, fine_square}
use Rattle.certain.proofs.power.ExactNumbers.{units-above}
use Rattle.certain.proofs.power.Decided.{Squared}
use Rattle.certain.specs.wide.Sums.{weighed_sum, total}
use Rattle.genpowcone.specs.Feasible.{tail_of, signs}
use Rattle.certain.specs.wide.Tests.{weight_at, over, under, number, Inside}
use Rattle.certain.specs.wide.Meaning.{Exponents, Point}
use Rattle.certain.proofs.wide_kind.LogSums.{logs_to, added_to, At}
use Rattle.certain.proofs.wide_kind.Squares.{squares_summed, squared}
use Rattle.certain.proofs.wide_kind.Decide.{sum-above, sum_below}
use Rattle.certain.proofs.wide_kind.Exact.{units-by, Alike, same_sums, sums_over, under-pos, squares_cross, crossed_pos}
use Rattle.certain.proofs.wide_kind.Points.{head_at, tail_length, tail_at, exponent_at}
use Rattle.certain.proofs.wide_kind.ExponentSums.{exact_sum}

abbrev U : ℕ
U = 2 ^ 1074

-- 2αᵢ in units
abbrev pub weight_to : List Float → ℕ → ℕ
weight_to α i = 2 * units_of binary64 (at α i)

doubled_total : (f : ℕ → ℕ) (n : ℕ) → total (λ (i : ℕ). 2 * f i) n ≡ 2 * total f n
unfolding total
doubled_total f zero = refl
doubled_total f (suc n) = ap (λ (t : ℕ). t + 2 * f n) (doubled_total f n) ∙ sym (mul-add 2 (total f n) (f n))

-- a tail's squares, by units and by its places
module _ {α s : List Float} (pt : Point α s) where
  abbrev xs : List Float
  xs = tail_of α s

  abbrev w : ℕ → ℕ
  w i = units_of binary64 (at xs i)

  abbrev c : ℕ
  c = total (λ (i : ℕ). w i * w i) (length xs)

  fine : (i : ℕ) → i < length xs → Fine (at xs i ⊗ at xs i) (w i * w i)
  fine i l =
      let k = tail_at pt i l in
      subst (λ (n : ℕ). Fine (at xs i ⊗ at xs i) (n * n)) (sym (units-by (at xs i) k.sign k.units k.is)) (fine_square (at xs i) k)

  pub tail_squared : Squared (sumsq_of xs) c
  unfolding sumsq_of
  tail_squared = squared (tail_length pt) (squares_summed (λ (i : ℕ). at xs i) w (length xs) (tail_length pt) fine)

  cross : c * under α s ≡ over α s * (U * U)
  cross =
      squares_cross xs w (length xs)
      (λ i l. let k = tail_at pt i l in
      cross_of_lem (at xs i) k.sign k.units k.is
      ∙ ap (λ (n : ℕ). n * den (at xs i)) (sym (units-by (at xs i) k.sign k.units k.is)))

  pU : 0 < U * U
  pU = mul-pos (pow_pos 1074) (pow_pos 1074)

  pub over-some : 0 < c → 0 < over α s
  over-some p = crossed_pos c (under α s) (over α s) (U * U) cross p (under-pos xs w (length xs))

  pub units-some : 0 < over α s → 0 < c
  units-some p = crossed_pos (over α s) (U * U) c (under α s) (sym cross) p pU

  pub tail_exact : 0 < c → Same (lOf c (U * U)) (lOf (over α s) (under α s))
  tail_exact p = L-of_equal c (U * U) (over α s) (under α s) p pU (over-some p) (under-pos xs w (length xs)) cross

module _
    (α s : List Float) (e : Exponents α) (pt : Point α s) (passed : signs α s ≡ true) (p : ℕ → Float) (x z : ℕ → Signed)
    (each : (i : ℕ) → i < length α → (p i ≡ inf false) ⊎ At p x (weight_to α) i)
    (alike : (i : ℕ) → i < length α → Alike (λ (i : ℕ). in_units false (weight_to α i)) (weight_at α) x z i) where
  abbrev n : ℕ
  n = length α

  abbrev y : Float
  y = added_to p x (weight_to α) n

  abbrev q : Float
  q = sumsq_of (tail_of α s)

  abbrev logs : Signed
  logs = weighed_sum (weight_at α) z n

  few : 2 * total (weight_to α) n ≤ 5 * U
  few =
      le_trans (le_of_eq (ap (λ (t : ℕ). 2 * t) (doubled_total (λ (i : ℕ). units_of binary64 (at α i)) n)
      ∙ four (total (λ (i : ℕ). units_of binary64 (at α i)) n)))
      (exact_sum α e.most (exponent_at e) e.sum-most)
    where
      four : (t : ℕ) → 2 * (2 * t) ≡ 4 * t
      four t = omega arith

  number-over : 0 < (number logs α s).over
  unfolding number
  number-over =
      mul-pos (sums_over (λ (i : ℕ). in_units false (weight_to α i)) (weight_at α) x z n alike)
      (over_pos_of (over α s) (under α s) (under-pos (tail_of α s) (w pt) (length (tail_of α s))))

  same : 0 < c pt → Same (minus (logs_to p x (weight_to α) n) (lOf (c pt) (U * U))) (number logs α s)
  unfolding number
  same pc =
      same_minus (sums_over (λ (i : ℕ). in_units false (weight_to α i)) (weight_at α) x z n alike) (over_pos_of (c pt) (U * U) (pU pt))
      (same_sums (λ (i : ℕ). in_units false (weight_to α i)) (weight_at α) x z n alike) (tail_exact pt pc)

  pub inside : (part : Float) (F : Counted wide_errors part) → T (margin_of part (exp_of y) q ≺ (exp_of y ⊖ q)) → Inside logs α s
  inside part F test = record {
    head-above = λ i l. let h = head_at pt passed i l in units-above (at s i) (units_of binary64 (at s i)) h.some h.is;
    number-above = λ k.
        let pc : 0 < c pt = units-some pt k in
        above_moves number-over (same pc) (sum-above p x (weight_to α) n e.most few each q (c pt) (tail_squared pt) part F pc test);
  }

  pub outside :
      (part : Float) (F : Counted wide_errors part) → T ((exp_of y ⊖ q) ≺ neg (margin_of part (exp_of y) q))
      → (0 < over α s) × BelowZero (number logs α s)
  outside part F test =
      let d = sum_below p x (weight_to α) n e.most few each q (c pt) (tail_squared pt) part F test in
      (over-some pt d.0, below_moves number-over (same d.0) d.1)
