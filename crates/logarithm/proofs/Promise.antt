-- What document 01 asks of the logarithm, proved: the special cases are computed or read off the sign, the rest is Doubles. Assumes
-- nothing.
use Rattle.std.proofs.Common.{◌≡◌, ℕ, suc, ◌*◌, ◌^◌, Bool, true, false, T, ℤ, pos, sym, refl, mul-pos, arith}
use lib.Count.{count_trailing_zeros}
use lib.Ieee.{nan, inf, fin, binary64, fits, up, down, mul, of_int, of_bits, of_fields, to_bits, is_nan, round, size, units, odd}
use lib.Ieee.Fits.{up_pos, down_pos}
use Rattle.double.specs.Numbers.{#0, #1}
use Rattle.double.specs.Fields.{normal_of}
use Rattle.double.proofs.Fields.{measured}
use Rattle.series.specs.Series.{Written, rise, fall}
use Rattle.series.proofs.Written.{written}
use Rattle.logarithm.specs.table.Table.{table}
use Rattle.logarithm.specs.Steps.{upper, ratio_of, short_series_of, mantissa_of, scaled_of, positive_of, by_field_of, log_of}
use Rattle.logarithm.specs.Bound.{Promise}
use Rattle.logarithm.proofs.Cases.{log-signed}
use Rattle.logarithm.proofs.Doubles.{log_close, log_close_by_any, log_below_one, log_from_one}

of_zero : (s : Bool) → log_of (fin s 0 (pos 0)) ≡ inf true
unfolding log_of by_field_of is_nan to_bits size
of_zero true = refl
of_zero false = refl

-- any other with the sign
of_negative : (m : ℕ) (e : ℤ) → T (fits binary64 (fin true m e)) → log_of (fin true m e) ≡ inf true
unfolding is_nan
of_negative m e F = sym (log-signed (fin true m e) (inf true) refl (sym (measured (fin true m e) F tt).is.0) refl)

of_minus_infinity : log_of (inf true) ≡ inf true
unfolding log_of by_field_of is_nan to_bits
of_minus_infinity = refl

of_nan : log_of nan ≡ nan
unfolding log_of is_nan
of_nan = refl

of_infinity : log_of (inf false) ≡ inf false
unfolding log_of by_field_of is_nan to_bits
of_infinity = refl

of_one : log_of #1 ≡ #0
unfolding log_of by_field_of positive_of normal_of scaled_of mantissa_of short_series_of ratio_of upper table is_nan to_bits of_bits of_fields mul of_int
    round size units odd count_trailing_zeros
of_one = refl

k_and_m :
    (n : ℕ) (e : ℤ) → let a = suc n * up e in let b = down e in Written a b (rise a b) (fall a b) (a * 2 ^ fall a b) (b * 2 ^ rise a b)
k_and_m n e = written (suc n * up e) (down e) (mul-pos {m = suc n} (omega arith) (up_pos e)) (down_pos e)

pub promise : Promise
promise = record {
  of_zero = of_zero;
  of_negative = of_negative;
  of_minus_infinity = of_minus_infinity;
  of_nan = of_nan;
  of_infinity = of_infinity;
  of_one = of_one;
  otherwise = log_close;
  k_and_m = k_and_m;
  by_any_k_and_m = log_close_by_any;
  below_one = log_below_one;
  from_one = log_from_one;
}
