-- The twelve border rows of document 01, each computed from the definitions with the real kernels. Assumes nothing.
use mathlib.Core.Path.{refl}
use lib.Count.{count_trailing_zeros, count_leading_zeros}
use lib.ListN.{drop}
use lib.Ieee.{add, sub, mul, div, neg, lt, le, eq, ne, is_nan, of_bits, to_bits, of_fields, of_int, round, size, units, odd, span, climb}
use Rattle.arith.specs.Turns.{iter}
use Rattle.double.specs.Numbers.{dec}
use Rattle.double.specs.Fields.{mag, shift, normal_of}
use Rattle.double.specs.Sizes.{abs_of}
use Rattle.logarithm.specs.table.Table.{table as logarithms}
use Rattle.logarithm.specs.Steps.{upper, ratio_of, short_series_of, mantissa_of, scaled_of, positive_of, by_field_of, log_of}
use Rattle.exponential.specs.Sum.{factorial}
use Rattle.exponential.specs.Steps.{border, gap, place_of, raised, rest, coefficient, horner, composed, exp_at, exp_of}
use Rattle.cone.specs.verdict.Answers.{told_of}
use Rattle.cone.specs.verdict.Margins.{power_margin}
use Rattle.cone.specs.Fresh.{fresh_of, no_three, no_wide}
use Rattle.cone.specs.Codes.{numel_of}
use Rattle.judges.specs.Judges.{all_of, cone_ok, cone_ok_within, three_ok, three_finite, record_finite}
use Rattle.cone.specs.table.Table.{first_row, settle}
use Rattle.judges.specs.Refusals.{last_rows, settle_record}
use Rattle.expcone.specs.feasible.Feasible as expcone
use Rattle.expcone.specs.wright.Omega.{taylor_start, start_of, refine_of, refined_of, omega_of, omega_at}
use Rattle.expcone.specs.PrimalGradient.{gradient_primal_of}
use Rattle.expcone.specs.DualGradient.{update_dual_grad_h_of}
use Rattle.powcone.specs.Feasible as powcone
use Rattle.kinds.specs.Answers.{exp_answer, pow_answer, answer_in}
use Rattle.kinds.specs.Passes.{passes_in}
use Rattle.kinds.specs.Three as three
use Rattle.kinds.specs.Cones as cones
use Rattle.search.specs.trials.Trials.{trial}
use Rattle.search.specs.trials.Search.{scan, search_of}
use Rattle.algebra.specs.Vectors.{moved_of}
use Rattle.call_cone.specs.formulas.Rows.{read_faults}
use Rattle.call_cone.specs.formulas.Entries.{is_primal_feasible_of, is_dual_feasible_of, dual_grad_h_of}
use Rattle.call_search.specs.single.Rows.{search_faults}
use Rattle.call_search.specs.single.Entries.{backtrack_search_of}
use Rattle.call_record.specs.entries.Rows.{gradient_rows}
use Rattle.call_record.specs.entries.Entries as record_entries
use Rattle.promises.specs.border.Rows.{AllRight, Border, table}

pub border-rows : Border
unfolding table is_primal_feasible_of is_dual_feasible_of dual_grad_h_of backtrack_search_of record_entries.gradient_primal_of
    read_faults search_faults gradient_rows first_row settle last_rows settle_record cone_ok cone_ok_within three_ok numel_of all_of three_finite record_finite fresh_of
    no_three no_wide passes_in answer_in exp_answer pow_answer cones.dual_grad_h_of three.update_dual_grad_h_of three.gradient_primal_of search_of scan
    trial moved_of told_of abs_of power_margin expcone.primal_feasible expcone.primal_signs expcone.primal_residue expcone.primal_residue_at
    expcone.primal_margin expcone.primal_margin_at expcone.dual_feasible expcone.dual_signs expcone.dual_residue expcone.dual_residue_at
    expcone.dual_margin expcone.dual_margin_at powcone.primal_feasible powcone.signs powcone.primal_residue powcone.primal_margin
    powcone.residue_at taylor_start start_of refine_of refined_of omega_of omega_at gradient_primal_of
    update_dual_grad_h_of iter dec log_of by_field_of positive_of normal_of scaled_of mantissa_of short_series_of ratio_of upper logarithms exp_of exp_at
    composed horner coefficient factorial rest raised place_of gap border mag shift add sub mul div neg lt le eq ne is_nan to_bits of_bits
    of_fields of_int round size units odd span climb count_trailing_zeros count_leading_zeros
border-rows = (refl, (refl, (refl, (refl, (refl, (refl, (refl, from_h)))))))
  where
    from_h : AllRight (drop 7 table)
    from_h = ((λ x y z. refl), ((refl, refl), ((λ x y z. refl), ((λ x y z. refl), ((λ x y z. refl), tt)))))
