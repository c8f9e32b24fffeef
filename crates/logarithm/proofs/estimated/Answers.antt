-- `estimated` meets its contract: d, 2^52 and the factors are doubles, and n is one but for its last bit; the rest is NearQuotients and
-- NearTerms. Assumes nothing.
use Rattle.std.proofs.Common.{ℕ, ◌+◌, ◌*◌, ◌/◌, ◌^◌, ◌<◌, ◌≤◌, pos, arith, le→leb}
use lib.Ieee.{Float, binary64, add, div, of_int, of_bits, in_float, to_bits}
use Rattle.double.specs.Fields.{Units, digits_of}
use Rattle.double.proofs.Fields.{digits_lt}
use Rattle.double.proofs.Made.{number, made}
use Rattle.logarithm.proofs.Roundings.{whole_units, sum_number, digits_above, digits_below}
use Rattle.logarithm.proofs.NearQuotients.{quotient_near, u_small, near_above, near_below, last_bit_above, last_bit_below}
use Rattle.logarithm.proofs.NearTerms.{terms_near, terms_small, series_above, series_below}
use Rattle.logarithm.proofs.estimated.Goals as goal

pub int_to_float-x : goal.int_to_float-x
unfolding in_float
int_to_float-x c = le→leb c.args.d (2 ^ 53) (omega arith)

pub float_from_bits-y : goal.float_from_bits-y
float_from_bits-y c = number _ (omega arith)

module _ (d n : ℕ) (p : (d < 2 ^ 44) × (512 * d < n) × (2 ^ 53 ≤ n) × (n < 2 ^ 54)) where
  abbrev x : Float
  x = of_int binary64 (pos d)

  abbrev y : Float
  y = of_bits binary64 (0x3f70_0000_0000_0000 + n / 2)

  abbrev r : Float
  r = div binary64 x y

  x-units : Units x (d * 2 ^ 1074)
  x-units = whole_units d (omega arith)

  y_units : Units y (n / 2 * 2 ^ 1015)
  y_units = made 1015 (n / 2) (omega arith) (omega arith) (omega arith)

  from : 2 ^ 52 ≤ n / 2
  from = omega arith

  little : 256 * d ≤ n / 2
  little = omega arith

  -- x / y: its units and its digits
  abbrev u : ℕ
  u = (quotient_near d (n / 2) x y x-units y_units from little).units

  r-units : Units r u
  r-units = (quotient_near d (n / 2) x y x-units y_units from little).is

  r_small : u ≤ (2 ^ 51 + 2) * 2 ^ 1074
  r_small = u_small d (n / 2) x y x-units y_units from little

  abbrev q : ℕ
  q = digits_of (to_bits binary64 (add binary64 r (of_bits binary64 0x4330_0000_0000_0000)))

  q-above : q * 2 ^ 1074 ≤ u + 2 ^ 1074
  q-above = digits_above r u r-units r_small

  q-below : u ≤ q * 2 ^ 1074 + 2 ^ 1074
  q-below = digits_below r u r-units r_small

  -- the small terms
  abbrev terms : ℕ
  terms = (terms_near r u q r-units r_small q-above q-below).units

  t_small : terms ≤ (2 ^ 51 + 2) * 2 ^ 1074
  t_small = terms_small r u q r-units r_small q-above q-below

pub float_to_bits-result : goal.float_to_bits-result
float_to_bits-result c =
    let d = c.args.d in
    let n = c.args.n in
    let p = c.requires in
    sum_number (r d n p) (u d n p) (r-units d n p) (r_small d n p)

pub float_to_bits-result-2 : goal.float_to_bits-result-2
float_to_bits-result-2 c =
    let d = c.args.d in
    let n = c.args.n in
    let p = c.requires in
    sum_number _ (terms d n p)
    (terms_near (r d n p) (u d n p) (q d n p) (r-units d n p) (r_small d n p) (q-above d n p) (q-below d n p)).is (t_small d n p)

pub returns : goal.returns
returns c =
    let d = c.args.d in
    let n = c.args.n in
    let p = c.requires in
    let t-units = (terms_near (r d n p) (u d n p) (q d n p) (r-units d n p) (r_small d n p) (q-above d n p) (q-below d n p)).is in
    record {
      q_small = digits_lt _;
      q-above =
          last_bit_above d n (n / 2) (q d n p) (omega arith) (digits_lt _) (omega arith) (omega arith)
          (near_above d (n / 2) (x d n p) (y d n p) (x-units d n p) (y_units d n p) (from d n p) (little d n p) (q d n p) (q-above d n p));
      q-below =
          last_bit_below d n (n / 2) (q d n p) (omega arith) (digits_lt _) (omega arith)
          (near_below d (n / 2) (x d n p) (y d n p) (x-units d n p) (y_units d n p) (from d n p) (little d n p) (q d n p) (q-below d n p));
      c_small = digits_lt _;
      c_above =
          λ e hi lo.
          series_above (r d n p) (u d n p) (q d n p) (r-units d n p) (r_small d n p) (q-above d n p) (q-below d n p) _ e
          (digits_above _ (terms d n p) t-units (t_small d n p))
          (digits_below _ (terms d n p) t-units (t_small d n p)) hi lo;
      c_below =
          λ e hi lo.
          series_below (r d n p) (u d n p) (q d n p) (r-units d n p) (r_small d n p) (q-above d n p) (q-below d n p) _ e
          (digits_above _ (terms d n p) t-units (t_small d n p))
          (digits_below _ (terms d n p) t-units (t_small d n p)) hi lo;
    }
