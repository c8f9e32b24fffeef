-- The number of binary digits of a normal double's units is its exponent field and 52: the field less 1023 is the exponent E with x from
-- 2^E up to 2^(E+1). Assumes nothing.
use mathlib.Core.Path.{◌≡◌, ap, ◌∙◌}
use Prim.Native.Nat.{ℕ, zero, suc, ◌+◌, ◌^◌, ◌≤◌, ◌<◌}
use native.Mathlib.Nat.{le_trans, le_of_eq, not-le_of_lt, zero-lt-suc}
use mathlib.Core.Bool.{false}
use lib.Dec.{T}
use lib.Ieee.{Float, binary64, fits, to_bits, size}
use lib.Ieee.Positive.{positive}
use Rattle.rounding.specs.Units.{units_of}
use Rattle.rounding.proofs.Units.{is-units}
use Rattle.double.specs.Fields.{field_of, digits_of, mag}
use Rattle.double.proofs.Fields.{digits_lt, read}
use Rattle.double.proofs.Normalised.{size_of_normal}
use Rattle.search.specs.trials.Trials.{exponent_of}

-- the field 0 has no normal number
field_pos : (f t : ℕ) → 2 ^ 52 ≤ mag f t → t < 2 ^ 52 → 1 ≤ f
unfolding mag
field_pos zero t n l = absurd (not-le_of_lt l n)
field_pos (suc j) t n l = zero-lt-suc j

pub digits_by_exponent : (x : Float) → T (fits binary64 x) → T (positive x) → 2 ^ 52 ≤ units_of binary64 x
    → size (units_of binary64 x) ≡ exponent_of x + 52
digits_by_exponent x F p n =
    let b = to_bits binary64 x in
    let r = read x false (units_of binary64 x) F (is-units binary64 x F p) in
    let f = field_pos (field_of b) (digits_of b) (le_trans n (le_of_eq r.size)) (digits_lt b) in
    ap size r.size ∙ size_of_normal (field_of b) (digits_of b) f r.field (digits_lt b)
