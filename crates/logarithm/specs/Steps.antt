-- What `log` computes, step by step, in whole numbers up to the last rounding. Definitions only; specs/Bound says what document 01 asks of
-- it.
use Rattle.std.specs.Prelude.{ℕ, zero, suc, ◌+◌, ◌-◌, ◌*◌, ◌/◌, ◌%◌, ◌^◌, true, false, cond, pos, ◌==◌, from_bits, is_nan, nat_lt, slice_index, to_bits, Float}
use Rattle.std.specs.Float.{nan, inf, binary64}
use Rattle.std.specs.Float.Ieee.{neg, of_int}
use Rattle.double.specs.Operators.{◌⊗◌}
use Rattle.double.specs.Fields.{sign_of, field_of, digits_of, normal_of}
use Rattle.logarithm.specs.table.Table.{table}

-- S(1/3) in units of 2^-53, rounded down
abbrev pub ln2 : ℕ
ln2 = 6243314768165359

-- the upper half of a product of two u64
unfoldable pub upper : ℕ → ℕ → ℕ
upper a b = a * b / 2 ^ 64

-- (m - c)/(m + c) in units of 2^-64, where c is m with its 44 low bits cleared: c / 2^52 is 1+i/256 for the entry i. Cut to units of 2^-60.
unfoldable pub ratio_of : ℕ → ℕ
ratio_of m = m % 2 ^ 44 * 2 ^ 60 / (m + m / 2 ^ 44 * 2 ^ 44) * 16

-- 2 (t + t³/3 + t⁵/5) in units of 2^-64: the first three terms of S
unfoldable pub short_series_of : ℕ → ℕ
short_series_of t = 2 * t + 2 * upper t (upper t t) / 3 + 2 * upper (upper t (upper t t)) (upper t t) / 5

-- the logarithm of m / 2^52 in units of 2^-64, 2^52 ≤ m < 2^53: log (m/c) + log (c/2^52)
unfoldable pub mantissa_of : ℕ → ℕ
mantissa_of m = slice_index table (m / 2 ^ 44 - 256) * 256 + short_series_of (ratio_of m)

-- n / 2^53
unfoldable pub scaled_of : ℕ → Float
scaled_of n = of_int binary64 (pos n) ⊗ from_bits binary64 0x3ca0_0000_0000_0000

-- the logarithm of m·2^(k-1126), 2^52 ≤ m < 2^53: of m / 2^52, and k - 1074 times S(1/3). The sum is taken by its size, since no whole
-- number is negative.
unfoldable pub positive_of : ℕ → ℕ → Float
positive_of m k =
    cond (nat_lt k 1074) (neg (scaled_of ((1074 - k) * ln2 - mantissa_of m / 2 ^ 11))) (scaled_of ((k - 1074) * ln2 + mantissa_of m / 2 ^ 11))

-- of a number that is not negative, by the three classes of its exponent field; the field 0 with no digits is zero
unfoldable pub by_field_of : ℕ → ℕ → Float
by_field_of zero t = cond (t == 0) (inf true) (positive_of (normal_of 0 t).m (normal_of 0 t).k)
by_field_of (suc j) t = cond (nat_lt (suc j) 2047) (positive_of (normal_of (suc j) t).m (normal_of (suc j) t).k) (inf false)

-- 01: "zero or below gives minus infinity; NaN gives NaN, +infinity itself"
unfoldable pub log_of : Float → Float
log_of x =
    let b = to_bits binary64 x in
    cond (is_nan x) nan (cond (sign_of b) (inf true) (by_field_of (field_of b) (digits_of b)))
