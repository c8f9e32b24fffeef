-- The hypotheses of Order 12's laws can be met in both power cones: a yes and a no on the residue of each, computed with the real kernels,
-- go through `feasibility-certain`. Assumes nothing.
use mathlib.Core.Path.{refl}
use mathlib.Core.Bool.{true, false}
use Prim.Native.Nat.{zero, suc}
use native.Mathlib.Nat.{le_of_suc-le-suc, not-suc-le-zero}
use lib.Dec.{lit≤, lit<}
use lib.Count.{count_trailing_zeros, count_leading_zeros}
use lib.Ieee.{Float, fits, add, sub, mul, div, neg, lt, le, eq, ne, is_nan, of_bits, to_bits, of_fields, of_int, round, size, units, odd}
use lib.Ieee.{span, climb}
use Rattle.arith.specs.Turns.{iter}
use Rattle.double.specs.Numbers.{#½, #1, #2}
use Rattle.double.specs.Fields.{mag, shift, normal_of}
use Rattle.series.specs.change.SignedArithmetic.{AboveZero, BelowZero}
use Rattle.logarithm.specs.table.Table.{table}
use Rattle.logarithm.specs.Steps.{upper, ratio_of, short_series_of, mantissa_of, scaled_of, positive_of, by_field_of, log_of}
use Rattle.exponential.specs.Sum.{factorial}
use Rattle.exponential.specs.Steps.{border, gap, place_of, raised, rest, coefficient, horner, composed, exp_at, exp_of}
use Rattle.cone.specs.verdict.Answers.{told_of}
use Rattle.cone.specs.verdict.Margins.{power_margin}
use Rattle.cone.specs.Codes.{numel_of}
use Rattle.cone.specs.table.Table.{first_row, settle}
use Rattle.judges.specs.Judges.{all_of, tolerance_of, wide_ok, three_ok, cone_ok_within, cone_ok}
use Rattle.algebra.specs.Vectors.{sum_of, sumsq_of}
use Rattle.powcone.specs.Feasible as powcone
use Rattle.genpowcone.specs.Feasible as genpowcone
use Rattle.genpowcone.specs.loops.Folds.{all_above_zero, primal_log_sum}
use Rattle.kinds.specs.Answers.{pow_answer, genpow_answer, answer_in}
use Rattle.kinds.specs.Cones.{alphas_of}
use Rattle.certain.specs.Coordinates.{InRange}
use Rattle.certain.specs.wide.Sums.{squares_over, squares_under}
use Rattle.call_cone.specs.formulas.Rows.{read_faults}
use Rattle.call_cone.specs.formulas.Entries.{is_primal_feasible_of, is_dual_feasible_of}
use Rattle.promises.specs.border.Rows.{power, triple}
use Rattle.promises.specs.rules.Rules.{half_and}
use Rattle.promises.specs.yes_of_calls.Points.{AllDoubles, Held, AllInRange, power_number, generalized_number}
use Rattle.promises.specs.yes_of_calls.Feasibility.{Certain}
use Rattle.promises.proofs.yes_of_calls.Accepted.{zeros_double}
use Rattle.promises.proofs.yes_of_calls.Feasibility.{feasibility_certain}

-- ---- a cone and a point of a call

unit : InRange #1
unfolding of_bits of_fields odd count_trailing_zeros
unit = record { finite_number = tt; most = lit≤ tt; least = λ p. lit≤ tt }

half : InRange #½
unfolding of_bits of_fields odd count_trailing_zeros
half = record { finite_number = tt; most = lit≤ tt; least = λ p. lit≤ tt }

double : InRange #2
unfolding of_bits of_fields odd count_trailing_zeros
double = record { finite_number = tt; most = lit≤ tt; least = λ p. lit≤ tt }

sizes : (x : Float) → InRange x → AllInRange (triple #1 #1 x)
sizes x h zero l = unit
sizes x h (suc zero) l = unit
sizes x h (suc (suc zero)) l = h
sizes x h (suc (suc (suc i))) l = absurd (not-suc-le-zero (le_of_suc-le-suc (le_of_suc-le-suc (le_of_suc-le-suc l))))

half_doubles : AllDoubles (triple #1 #1 #½)
unfolding fits of_bits of_fields odd count_trailing_zeros
half_doubles zero l = tt
half_doubles (suc zero) l = tt
half_doubles (suc (suc zero)) l = tt
half_doubles (suc (suc (suc i))) l = tt

double_doubles : AllDoubles (triple #1 #1 #2)
unfolding fits of_bits of_fields odd count_trailing_zeros
double_doubles zero l = tt
double_doubles (suc zero) l = tt
double_doubles (suc (suc zero)) l = tt
double_doubles (suc (suc (suc i))) l = tt

held-power : Held (power #½)
unfolding fits of_bits of_fields odd count_trailing_zeros
held-power = record { places = refl; doubles = each }
  where
    each : AllDoubles (power #½).exps
    each zero l = tt
    each (suc i) l = zeros_double 31 i

-- two exponents of ½, and one place behind them
held_halves : Held (half_and #½ 1)
unfolding fits of_bits of_fields odd count_trailing_zeros
held_halves = record { places = refl; doubles = each }
  where
    each : AllDoubles (half_and #½ 1).exps
    each zero l = tt
    each (suc zero) l = tt
    each (suc (suc i)) l = zeros_double 30 i

-- ---- the power cone

half_in_power : Certain (power #½) (triple #1 #1 #½)
half_in_power = feasibility_certain (power #½) held-power (triple #1 #1 #½) half_doubles (sizes #½ half)

-- 1·1 is above ½²
pub power-above : AboveZero (power_number true #½ (triple #1 #1 #½))
unfolding is_primal_feasible_of read_faults first_row settle cone_ok cone_ok_within three_ok numel_of all_of answer_in pow_answer told_of power_margin
    powcone.primal_feasible powcone.signs powcone.primal_residue powcone.primal_margin powcone.residue_at iter log_of by_field_of positive_of
    normal_of scaled_of mantissa_of short_series_of ratio_of upper table exp_of exp_at composed horner coefficient factorial rest raised place_of
    gap border mag shift add sub mul div neg lt le eq ne is_nan to_bits of_bits of_fields of_int round size units odd span climb count_trailing_zeros
    count_leading_zeros
power-above = ((half_in_power.primal_yes refl).power refl).number-above (lit< tt)

-- 2·2 is above ½², the dual's
pub power_dual_above : AboveZero (power_number false #½ (triple #1 #1 #½))
unfolding is_dual_feasible_of read_faults first_row settle cone_ok cone_ok_within three_ok numel_of all_of answer_in pow_answer told_of power_margin
    powcone.dual_feasible powcone.signs powcone.dual_residue powcone.dual_margin powcone.residue_at iter log_of by_field_of positive_of
    normal_of scaled_of mantissa_of short_series_of ratio_of upper table exp_of exp_at composed horner coefficient factorial rest raised place_of
    gap border mag shift add sub mul div neg lt le eq ne is_nan to_bits of_bits of_fields of_int round size units odd span climb count_trailing_zeros
    count_leading_zeros
power_dual_above = ((half_in_power.dual_yes refl).power refl).number-above (lit< tt)

-- 1·1 is below 2²
pub power_below : BelowZero (power_number true #½ (triple #1 #1 #2))
unfolding is_primal_feasible_of read_faults first_row settle cone_ok cone_ok_within three_ok numel_of all_of answer_in pow_answer told_of power_margin
    powcone.primal_feasible powcone.signs powcone.primal_residue powcone.primal_margin powcone.residue_at iter log_of by_field_of positive_of
    normal_of scaled_of mantissa_of short_series_of ratio_of upper table exp_of exp_at composed horner coefficient factorial rest raised place_of
    gap border mag shift add sub mul div neg lt le eq ne is_nan to_bits of_bits of_fields of_int round size units odd span climb count_trailing_zeros
    count_leading_zeros
power_below =
    (((feasibility_certain (power #½) held-power (triple #1 #1 #2) double_doubles (sizes #2 double)).primal_no refl).power refl refl).1

-- ---- the generalized one

-- 1·1 is above ½²
pub generalized_above : AboveZero (generalized_number true (alphas_of (half_and #½ 1)) (triple #1 #1 #½))
unfolding is_primal_feasible_of read_faults first_row settle cone_ok cone_ok_within tolerance_of wide_ok numel_of all_of sum_of sumsq_of answer_in
    genpow_answer told_of power_margin genpowcone.primal_feasible genpowcone.signs genpowcone.primal_residue genpowcone.primal_margin
    genpowcone.residue_at all_above_zero primal_log_sum iter log_of by_field_of positive_of normal_of scaled_of mantissa_of short_series_of ratio_of upper
    table exp_of exp_at composed horner coefficient factorial rest raised place_of gap border mag shift add sub mul div neg lt le eq ne is_nan
    to_bits of_bits of_fields of_int round size units odd span climb count_trailing_zeros count_leading_zeros squares_over squares_under
generalized_above =
    (((feasibility_certain (half_and #½ 1) held_halves (triple #1 #1 #½) half_doubles (sizes #½ half)).primal_yes refl).generalized refl
    ).number-above (lit< tt)

-- 1·1 is below 2²
pub generalized_below : BelowZero (generalized_number true (alphas_of (half_and #½ 1)) (triple #1 #1 #2))
unfolding is_primal_feasible_of read_faults first_row settle cone_ok cone_ok_within tolerance_of wide_ok numel_of all_of sum_of sumsq_of answer_in
    genpow_answer told_of power_margin genpowcone.primal_feasible genpowcone.signs genpowcone.primal_residue genpowcone.primal_margin
    genpowcone.residue_at all_above_zero primal_log_sum iter log_of by_field_of positive_of normal_of scaled_of mantissa_of short_series_of ratio_of upper
    table exp_of exp_at composed horner coefficient factorial rest raised place_of gap border mag shift add sub mul div neg lt le eq ne is_nan
    to_bits of_bits of_fields of_int round size units odd span climb count_trailing_zeros count_leading_zeros squares_over squares_under
generalized_below =
    (((feasibility_certain (half_and #½ 1) held_halves (triple #1 #1 #2) double_doubles (sizes #2 double)).primal_no refl).generalized refl refl
    ).1
