-- A sum of weighed logarithms of which some may be infinite: then the exponential is infinite and nothing is told; else it is near the
-- exact sum, and the test tells its sign. Assumes nothing.
use mathlib.Core.Path.{◌≡◌, sym, ap, ap₂, ◌∙◌, subst}
use mathlib.Core.Bool.{false}
use mathlib.Core.Logic.{◌⊎◌, inl, inr}
use Prim.Native.Nat.{ℕ, zero, suc, ◌*◌, ◌^◌, ◌≤◌, ◌<◌}
use native.Mathlib.Nat.{le_trans, le_refl, le_step, le_of_suc-le, le_of_suc-le-suc, eq-or-lt_of_le, not-suc-le-zero, le-add_right}
use native.Mathlib.Omega.{arith}
use lib.Dec.{T}
use lib.Count.{count_trailing_zeros}
use lib.Ieee.{Float, inf, binary64, fits, neg, of_bits, of_fields, odd}
use lib.Ieee.Fits.{add-fits}
use Rattle.arith.specs.Turns.{iter}
use Rattle.double.specs.Operators.{◌⊕◌, ◌⊖◌, ◌≺◌}
use Rattle.double.specs.Numbers.{#0}
use Rattle.series.specs.Series.{Signed, lOf}
use Rattle.series.specs.change.SignedArithmetic.{minus, AboveZero, BelowZero}
use Rattle.exponential.specs.Steps.{exp_of}
use Rattle.cone.specs.verdict.Margins.{margin_of}
use Rattle.certain.proofs.power.Margins.{Counted, wide_errors}
use Rattle.certain.proofs.power.Infinities.{finite_and_infinite, infinite_and_finite, both_infinite, exp_infinity}
use Rattle.certain.proofs.power.Decided.{Squared, decided_yes, decided_no, untold_above, untold_below}
use Rattle.certain.specs.wide.Sums.{total}
use Rattle.certain.specs.wide.Meaning.{most_exponents}
use Rattle.certain.proofs.wide_kind.LogSums.{logs_to, added_to, At, logs-over, summed, errors_most}

abbrev U : ℕ
U = 2 ^ 1074

zero_fits : T (fits binary64 #0)
unfolding fits of_bits of_fields odd count_trailing_zeros
zero_fits = tt

module _ (p : ℕ → Float) (x : ℕ → Signed) (W : ℕ → ℕ) where
  -- the sum is infinite, or all its terms are near
  abbrev Told : ℕ → Type 0
  Told n = (added_to p x W n ≡ inf false) ⊎ ((i : ℕ) → i < n → At p x W i)

  one_more : (n : ℕ) → Told n → n ≤ most_exponents → total W n ≤ 3 * U → (p n ≡ inf false) ⊎ At p x W n → Told (suc n)
  unfolding iter
  one_more n (inl e) l few (inl f) = inl (ap₂ ◌⊕◌ e f ∙ both_infinite)
  one_more n (inl e) l few (inr h) =
      inl (ap (λ (t : Float). t ⊕ p n) e ∙ infinite_and_finite (p n) h.term.sign h.term.units h.term.is)
  one_more n (inr g) l few (inl f) =
      let t = summed p x W n l g few in
      inl (ap (λ (z : Float). added_to p x W n ⊕ z) f ∙ finite_and_infinite (added_to p x W n) t.sign t.units t.is)
  one_more n (inr g) l few (inr h) = inr (λ i k. go i (eq-or-lt_of_le (le_of_suc-le-suc k)))
    where
      go : (i : ℕ) → (i ≡ n) ⊎ (i < n) → At p x W i
      go i (inl e) = subst (λ (j : ℕ). At p x W j) (sym e) h
      go i (inr k) = g i k

  told : (n : ℕ) → n ≤ most_exponents → total W n ≤ 3 * U → ((i : ℕ) → i < n → (p i ≡ inf false) ⊎ At p x W i) → Told n
  unfolding total
  told zero l few h = inr (λ i k. absurd (not-suc-le-zero k))
  told (suc n) l few h =
      let fewer : total W n ≤ 3 * U = le_trans (le-add_right (total W n) (W n)) few in
      one_more n (told n (le_of_suc-le l) fewer (λ i k. h i (le_step k))) (le_of_suc-le l) fewer (h n (le_refl (suc n)))

  sum_fits : (n : ℕ) → T (fits binary64 (added_to p x W n))
  unfolding iter
  sum_fits zero = zero_fits
  sum_fits (suc n) = add-fits binary64 (added_to p x W n) (p n)

  module _
      (n : ℕ) (l : n ≤ most_exponents) (few : 2 * total W n ≤ 5 * U) (h : (i : ℕ) → i < n → (p i ≡ inf false) ⊎ At p x W i) (q : Float)
      (c : ℕ) (g : Squared q c) where
    abbrev y : Float
    y = added_to p x W n

    fewer : total W n ≤ 3 * U
    fewer = go (total W n) U few
      where
        go : (s z : ℕ) → 2 * s ≤ 5 * z → s ≤ 3 * z
        go s z h = omega arith

    infinite : y ≡ inf false → exp_of y ≡ inf false
    infinite e = ap exp_of e ∙ exp_infinity

    pub sum-above :
        (part : Float) (F : Counted wide_errors part) → 0 < c → T (margin_of part (exp_of y) q ≺ (exp_of y ⊖ q))
        → AboveZero (minus (logs_to p x W n) (lOf c (U * U)))
    sum-above part F pc test = go (told n l fewer h)
      where
        go : Told n → AboveZero (minus (logs_to p x W n) (lOf c (U * U)))
        go (inl e) =
            absurd (untold_above part F q g.units g.is (subst (λ (f : Float). T (margin_of part f q ≺ (f ⊖ q))) (infinite e) test))
        go (inr k) =
            decided_yes part F y (logs_to p x W n) _ (sum_fits n) (logs-over p x W n k) (summed p x W n l k fewer)
            (errors_most (total W n) n U few l) q c g pc test

    pub sum_below :
        (part : Float) (F : Counted wide_errors part) → T ((exp_of y ⊖ q) ≺ neg (margin_of part (exp_of y) q))
        → (0 < c) × BelowZero (minus (logs_to p x W n) (lOf c (U * U)))
    sum_below part F test = go (told n l fewer h)
      where
        go : Told n → (0 < c) × BelowZero (minus (logs_to p x W n) (lOf c (U * U)))
        go (inl e) =
            absurd (untold_below part F q g.units g.is
            (subst (λ (f : Float). T ((f ⊖ q) ≺ neg (margin_of part f q))) (infinite e) test))
        go (inr k) =
            decided_no part F y (logs_to p x W n) _ (sum_fits n) (logs-over p x W n k) (summed p x W n l k fewer)
            (errors_most (total W n) n U few l) q c g test
