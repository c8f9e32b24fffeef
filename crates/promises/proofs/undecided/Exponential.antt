-- The exponential cone, both sides: a margin has no sign, and is boundless where a coordinate is not finite. Assumes nothing.
use mathlib.Core.Bool.{Bool, true, false, not, ◌&&◌}
use mathlib.Core.List.{List}
use lib.Dec.{T}
use lib.Count.{count_trailing_zeros}
use lib.Ieee.{Float, nan, inf, fin, neg, lt, div, of_bits, of_fields, odd}
use lib.Ieee.Fits.{and_l, and_r}
use lib.Ieee.Scale.{finite}
use Rattle.double.specs.Operators.{◌⊕◌, ◌⊗◌, ◌⊘◌, ◌≺◌, at}
use Rattle.double.specs.Numbers.{#0, #1}
use Rattle.double.specs.Sizes.{abs_of}
use Rattle.kernels.specs.Door.{log_of}
use Rattle.cone.specs.verdict.Margins.{#2⁻⁴⁰}
use Rattle.expcone.specs.feasible.Feasible.{primal_residue_at, primal_residue, primal_margin_at, primal_margin, primal_signs}
use Rattle.expcone.specs.feasible.Feasible.{dual_residue_at, dual_residue, dual_margin_at, dual_margin, dual_signs}
use Rattle.promises.proofs.undecided.Unsigned.{unsigned, abs_unsigned, add-unsigned, mul-unsigned, of-above, one-unsigned}
use Rattle.promises.proofs.undecided.Boundless.{boundless, abs_boundless, left-boundless, right_boundless, times-boundless, boundless-times}
use Rattle.promises.proofs.undecided.Kernels.{log-size}

factor : T (unsigned #2⁻⁴⁰)
unfolding of_bits of_fields odd count_trailing_zeros
factor = tt

-- 1 + |l|
one-and : (l : Float) → T (unsigned (#1 ⊕ abs_of l))
one-and l = add-unsigned #1 (abs_of l) one-unsigned (abs_unsigned l)

pub primal_unsigned : (s : List Float) → T (primal_signs s) → T (unsigned (primal_margin s))
unfolding primal_signs primal_margin primal_margin_at
primal_unsigned s h =
    mul-unsigned #2⁻⁴⁰ _ factor
    (add-unsigned (at s 1 ⊗ (#1 ⊕ abs_of (primal_residue s).log)) (abs_of (at s 0))
    (mul-unsigned (at s 1) _ (of-above (at s 1) (and_r (#0 ≺ at s 2) (#0 ≺ at s 1) h)) (one-and (primal_residue s).log))
    (abs_unsigned (at s 0)))

pub dual-unsigned : (z : List Float) → T (unsigned (dual_margin z))
unfolding dual_margin dual_margin_at
dual-unsigned z =
    mul-unsigned #2⁻⁴⁰ _ factor
    (add-unsigned (abs_of (at z 1)) _ (abs_unsigned (at z 1))
    (mul-unsigned (abs_of (at z 0)) _ (abs_unsigned (at z 0)) (one-and (dual_residue z).log)))

only-first : (b : Bool) → T (not (b && true && true)) → T (not b)
only-first true h = h
only-first false h = tt

only-second : (b : Bool) → T (not (true && b && true)) → T (not b)
only-second true h = h
only-second false h = tt

-- 1 + |log| of an infinity
infinite : (s : Bool) → T (boundless (#1 ⊕ abs_of (log_of (inf s))))
infinite s = right_boundless #1 (abs_of (log_of (inf s))) (log-size s)

abbrev primal_sum : Float → Float → Float → Float
primal_sum s0 s1 s2 = s1 ⊗ (#1 ⊕ abs_of (log_of (s2 ⊘ s1))) ⊕ abs_of s0

primal_sum_lem :
    (s0 s1 s2 : Float) → T (not (finite s0 && finite s1 && finite s2)) → T (#0 ≺ s2) → T (#0 ≺ s1) → T (boundless (primal_sum s0 s1 s2))
unfolding lt div of_bits of_fields odd count_trailing_zeros
primal_sum_lem s0 nan s2 n h2 h1 = absurd h1
primal_sum_lem s0 (inf true) s2 n h2 h1 = absurd h1
primal_sum_lem s0 (inf false) s2 n h2 h1 = left-boundless _ (abs_of s0) (boundless-times (inf false) _ tt (one-and (log_of (s2 ⊘ inf false))))
primal_sum_lem s0 (fin true m e) s2 n h2 h1 = absurd h1
primal_sum_lem s0 (fin false m e) nan n h2 h1 = absurd h2
primal_sum_lem s0 (fin false m e) (inf true) n h2 h1 = absurd h2
primal_sum_lem s0 (fin false m e) (inf false) n h2 h1 = left-boundless _ (abs_of s0) (times-boundless (fin false m e) _ tt (infinite false))
primal_sum_lem s0 (fin false m e) (fin t k d) n h2 h1 = right_boundless _ (abs_of s0) (abs_boundless s0 (only-first (finite s0) n))

abbrev dual_sum : Float → Float → Float → Float
dual_sum z0 z1 z2 = abs_of z1 ⊕ abs_of z0 ⊗ (#1 ⊕ abs_of (log_of (neg z2 ⊘ z0)))

dual-sum :
    (z0 z1 z2 : Float) → T (not (finite z0 && finite z1 && finite z2)) → T (#0 ≺ z2) → T (z0 ≺ #0) → T (boundless (dual_sum z0 z1 z2))
unfolding lt div neg abs_of of_bits of_fields odd count_trailing_zeros
dual-sum nan z1 z2 n h2 h0 = absurd h0
dual-sum (inf false) z1 z2 n h2 h0 = absurd h0
dual-sum (inf true) z1 z2 n h2 h0 = right_boundless (abs_of z1) _ (boundless-times (inf false) _ tt (one-and (log_of (neg z2 ⊘ inf true))))
dual-sum (fin s m e) z1 nan n h2 h0 = absurd h2
dual-sum (fin s m e) z1 (inf true) n h2 h0 = absurd h2
dual-sum (fin false m e) z1 (inf false) n h2 h0 = right_boundless (abs_of z1) _ (times-boundless (fin false m e) _ tt (infinite true))
dual-sum (fin true m e) z1 (inf false) n h2 h0 = right_boundless (abs_of z1) _ (times-boundless (fin false m e) _ tt (infinite false))
dual-sum (fin s m e) z1 (fin t k d) n h2 h0 = left-boundless (abs_of z1) _ (abs_boundless z1 (only-second (finite z1) n))

abbrev three_finite : List Float → Bool
three_finite s = finite (at s 0) && finite (at s 1) && finite (at s 2)

pub primal_boundless : (s : List Float) → T (not (three_finite s)) → T (primal_signs s) → T (boundless (primal_margin s))
unfolding primal_signs primal_margin primal_margin_at primal_residue primal_residue_at
primal_boundless s n h =
    times-boundless #2⁻⁴⁰ _ factor
    (primal_sum_lem (at s 0) (at s 1) (at s 2) n (and_l (#0 ≺ at s 2) (#0 ≺ at s 1) h) (and_r (#0 ≺ at s 2) (#0 ≺ at s 1) h))

pub dual-boundless : (z : List Float) → T (not (three_finite z)) → T (dual_signs z) → T (boundless (dual_margin z))
unfolding dual_signs dual_margin dual_margin_at dual_residue dual_residue_at
dual-boundless z n h =
    times-boundless #2⁻⁴⁰ _ factor
    (dual-sum (at z 0) (at z 1) (at z 2) n (and_l (#0 ≺ at z 2) (at z 0 ≺ #0) h) (and_r (#0 ≺ at z 2) (at z 0 ≺ #0) h))
