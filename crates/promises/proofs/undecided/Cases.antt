-- Two points that the border table lacks, computed: a no given on the residue, and a finite point of the power cone whose margin is
-- infinite, which is undecided. Assumes nothing.
use mathlib.Core.Path.{◌≡◌, refl}
use mathlib.Core.Bool.{false}
use mathlib.Core.List.{List, [], ◌∷◌}
use Prim.Native.Nat.{◌^◌}
use lib.Count.{count_trailing_zeros, count_leading_zeros}
use lib.Ieee.{Float, binary64, add, sub, mul, div, neg, lt, ne, is_nan, of_bits, to_bits, of_fields, of_int, round}
use lib.Ieee.{size, units, odd, span, climb}
use Rattle.arith.specs.Turns.{iter}
use Rattle.double.specs.Numbers.{#½, #1}
use Rattle.double.specs.Fields.{mag, shift, normal_of}
use Rattle.double.specs.Sizes.{abs_of}
use Rattle.logarithm.specs.table.Table.{table as logarithms}
use Rattle.logarithm.specs.Steps.{upper, ratio_of, short_series_of, mantissa_of, scaled_of, positive_of, by_field_of, log_of}
use Rattle.exponential.specs.Sum.{factorial}
use Rattle.exponential.specs.Steps.{border, gap, place_of, raised, rest, coefficient, horner, composed, exp_at, exp_of}
use Rattle.cone.specs.declared.verdict.Answer.TheVariants.{No, Undecided}
use Rattle.cone.specs.verdict.Answers.{told_of}
use Rattle.cone.specs.verdict.Margins.{power_margin}
use Rattle.expcone.specs.feasible.Feasible as expcone
use Rattle.powcone.specs.Feasible as powcone

abbrev triple : Float → Float → Float → List Float
triple x y z = x ∷ y ∷ z ∷ []

-- the double nearest to 1e200, whose square is above the largest double
abbrev #1e200 : Float
#1e200 = round binary64 false (10 ^ 200) 1

pub no_on_residue : expcone.primal_feasible (triple #1 #1 #1) ≡ No
unfolding expcone.primal_feasible expcone.primal_signs expcone.primal_residue expcone.primal_residue_at expcone.primal_margin
    expcone.primal_margin_at told_of abs_of iter log_of by_field_of positive_of normal_of scaled_of mantissa_of short_series_of ratio_of upper logarithms
    mag shift add sub mul div neg lt ne is_nan to_bits of_bits of_fields of_int round size units odd span climb count_trailing_zeros count_leading_zeros
no_on_residue = refl

pub finite_undecided : powcone.primal_feasible #½ (triple #1 #1 #1e200) ≡ Undecided
unfolding powcone.primal_feasible powcone.signs powcone.primal_residue powcone.residue_at powcone.primal_margin power_margin told_of iter log_of
    by_field_of positive_of normal_of scaled_of mantissa_of short_series_of ratio_of upper logarithms exp_of exp_at composed horner coefficient
    factorial rest raised place_of gap border mag shift add sub mul div neg lt ne is_nan to_bits of_bits of_fields of_int round size units odd
    span climb count_trailing_zeros count_leading_zeros
finite_undecided = refl
