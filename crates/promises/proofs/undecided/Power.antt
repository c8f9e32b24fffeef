-- The power cone, both sides: a margin has no sign, and is boundless where a coordinate is not finite. For an exponent that row 1 lets
-- through, whose factors have no sign. Assumes nothing.
use mathlib.Core.Path.{◌≡◌, refl, subst, sym}
use mathlib.Core.Bool.{Bool, true, false, not, cond, ◌&&◌}
use mathlib.Core.List.{List}
use Prim.Native.Nat.{ℕ, ◌-◌, ◌*◌, ◌<◌}
use native.Mathlib.Omega.{arith}
use lib.Dec.{T, ltb, ltb→lt}
use lib.Count.{count_trailing_zeros}
use lib.Ieee.{Float, nan, inf, fin, binary64, up, down, add, sub, sum, neg, lt, round, of_bits, of_fields, odd}
use lib.Ieee.Fits.{add-fits, and_l, and_r}
use lib.Ieee.Scale.{finite}
use borrow.Author.Tests.{le-ltb}
use Rattle.double.specs.Operators.{◌⊕◌, ◌⊖◌, ◌⊗◌, ◌⊘◌, ◌≺◌, at}
use Rattle.double.specs.Numbers.{#0, #1, #2}
use Rattle.kernels.specs.Door.{log_of, exp_of}
use Rattle.cone.specs.verdict.Margins.{#2⁻³⁰, power_margin}
use Rattle.judges.specs.Judges.{power_ok}
use Rattle.powcone.specs.Feasible.{residue_at, primal_residue, primal_margin, dual_residue, dual_margin, signs}
use Rattle.promises.proofs.undecided.Unsigned.{unsigned, add-unsigned, mul-unsigned, square_unsigned, of-above, round_unsigned}
use Rattle.promises.proofs.undecided.Boundless.{boundless, square_boundless, left-boundless, right_boundless, times-boundless}
use Rattle.promises.proofs.undecided.Boundless.{boundless-times, boundless-over, above-boundless}
use Rattle.promises.proofs.undecided.Kernels.{log-boundless, exp_boundless, exp_unsigned}

factor : T (unsigned #2⁻³⁰)
unfolding of_bits of_fields odd count_trailing_zeros
factor = tt

pub two-unsigned : T (unsigned #2)
unfolding of_bits of_fields odd count_trailing_zeros
two-unsigned = tt

-- ---- both power cones: the margin of e + q

pub margin-unsigned : (e q : Float) → T (unsigned e) → T (unsigned q) → T (unsigned (power_margin e q))
unfolding power_margin
margin-unsigned e q a b = mul-unsigned #2⁻³⁰ (e ⊕ q) factor (add-unsigned e q a b)

pub power-boundless : (e q : Float) → T (boundless e) → T (boundless (power_margin e q))
unfolding power_margin
power-boundless e q a = times-boundless #2⁻³⁰ (e ⊕ q) factor (left-boundless e q a)

pub sumsq_boundless : (e q : Float) → T (boundless q) → T (boundless (power_margin e q))
unfolding power_margin
sumsq_boundless e q b = times-boundless #2⁻³⁰ (e ⊕ q) factor (right_boundless e q b)

-- ---- the exponent's factors

below_one : (a b c : ℕ) → a < b → T (unsigned (sum binary64 false b true a c))
unfolding sum
below_one a b c h =
    subst (λ (t : Bool). T (unsigned (cond t (round binary64 true (a - b) c) (round binary64 (false && ltb a b) (b - a) c))))
    (sym (le-ltb b a (omega arith))) (round_unsigned binary64 (b - a) c)

-- 1 - α
rest-unsigned : (α : Float) → T (α ≺ #1) → T (#0 ≺ α) → T (unsigned (#1 ⊖ α))
unfolding lt sub neg add of_bits of_fields odd count_trailing_zeros
rest-unsigned nan h k = absurd h
rest-unsigned (inf true) h k = absurd k
rest-unsigned (inf false) h k = absurd h
rest-unsigned (fin true m e) h k = absurd k
rest-unsigned (fin false m e) h k = below_one (m * up e * 1) (1 * 1 * down e) _ (ltb→lt (m * up e * 1) (1 * 1 * down e) h)

-- ---- a term of the sum in the exponential: c·log x, and c·log(x/y)

pub term-boundless : (c x : Float) → T (unsigned c) → T (#0 ≺ x) → T (not (finite x)) → T (boundless (c ⊗ log_of x))
term-boundless c x a h n = times-boundless c (log_of x) a (log-boundless x (above-boundless x h n))

pub quotient-boundless :
    (c x y : Float) → T (unsigned c) → T (unsigned y) → T (#0 ≺ x) → T (not (finite x)) → T (boundless (c ⊗ log_of (x ⊘ y)))
quotient-boundless c x y a b h n =
    times-boundless c (log_of (x ⊘ y)) a (log-boundless (x ⊘ y) (boundless-over x y (above-boundless x h n) b))

-- ---- a point (x, y, w) whose first term t is boundless where x is not finite, and whose second u where y is not

not_finite : (x : Float) → finite x ≡ false → T (not (finite x))
not_finite x e = subst (λ (t : Bool). T (not t)) (sym e) tt

three-boundless :
    (x y w t u : Float) → (T (not (finite x)) → T (boundless t)) → (T (not (finite y)) → T (boundless u))
    → T (not (finite x && finite y && finite w)) → T (boundless (power_margin (exp_of (t ⊕ u)) (w ⊗ w)))
three-boundless x y w t u first second n = go (finite x) refl (finite y) refl n
  where
    go : (a : Bool) → finite x ≡ a → (b : Bool) → finite y ≡ b → T (not (a && b && finite w))
        → T (boundless (power_margin (exp_of (t ⊕ u)) (w ⊗ w)))
    go false e b f m = power-boundless _ _ (exp_boundless (t ⊕ u) (left-boundless t u (first (not_finite x e))))
    go true e false f m = power-boundless _ _ (exp_boundless (t ⊕ u) (right_boundless t u (second (not_finite y f))))
    go true e true f m = sumsq_boundless _ _ (square_boundless w m)

module _ (α : Float) (ok : T (power_ok α)) where
  α-unsigned : T (unsigned α)
  α-unsigned = of-above α (and_l (#0 ≺ α) (α ≺ #1) ok)

  1-α-unsigned : T (unsigned (#1 ⊖ α))
  1-α-unsigned = rest-unsigned α (and_r (#0 ≺ α) (α ≺ #1) ok) (and_l (#0 ≺ α) (α ≺ #1) ok)

  module _ (s : List Float) (h : T (signs s)) where
    first_above : T (#0 ≺ at s 0)
    unfolding signs
    first_above = and_l (#0 ≺ at s 0) (#0 ≺ at s 1) h

    second_above : T (#0 ≺ at s 1)
    unfolding signs
    second_above = and_r (#0 ≺ at s 0) (#0 ≺ at s 1) h

    pub primal_boundless : T (not (finite (at s 0) && finite (at s 1) && finite (at s 2))) → T (boundless (primal_margin α s))
    unfolding primal_margin primal_residue residue_at
    primal_boundless =
        three-boundless (at s 0) (at s 1) (at s 2) (#2 ⊗ α ⊗ log_of (at s 0)) (#2 ⊗ (#1 ⊖ α) ⊗ log_of (at s 1))
        (term-boundless (#2 ⊗ α) (at s 0) (mul-unsigned #2 α two-unsigned α-unsigned) first_above)
        (term-boundless (#2 ⊗ (#1 ⊖ α)) (at s 1) (mul-unsigned #2 (#1 ⊖ α) two-unsigned 1-α-unsigned) second_above)

    pub dual-boundless : T (not (finite (at s 0) && finite (at s 1) && finite (at s 2))) → T (boundless (dual_margin α s))
    unfolding dual_margin dual_residue residue_at
    dual-boundless =
        let 1-α = #1 ⊖ α in
        three-boundless (at s 0) (at s 1) (at s 2) (α ⊗ #2 ⊗ log_of (at s 0 ⊘ α)) (1-α ⊗ log_of (at s 1 ⊘ 1-α) ⊗ #2)
        (quotient-boundless (α ⊗ #2) (at s 0) α (mul-unsigned α #2 α-unsigned two-unsigned) α-unsigned first_above)
        (λ n. boundless-times _ #2 (quotient-boundless 1-α (at s 1) 1-α 1-α-unsigned 1-α-unsigned second_above n) two-unsigned)

-- the margins of any exponent have no sign
pub primal_unsigned : (α : Float) (s : List Float) → T (unsigned (primal_margin α s))
unfolding primal_margin primal_residue residue_at
primal_unsigned α s = margin-unsigned _ _ (exp_unsigned _ (add-fits binary64 _ _)) (square_unsigned (at s 2))

pub dual-unsigned : (α : Float) (z : List Float) → T (unsigned (dual_margin α z))
unfolding dual_margin dual_residue residue_at
dual-unsigned α z = margin-unsigned _ _ (exp_unsigned _ (add-fits binary64 _ _)) (square_unsigned (at z 2))
