-- The three fields of a double's bit pattern, and the number that they stand for, in units of the smallest double, 2^-1074. Definitions
-- only. In these units every finite double is a whole number, a subnormal too, so that statements about doubles become statements about
-- whole numbers.
use Rattle.std.specs.Prelude.{ℕ, zero, suc, ◌+◌, ◌-◌, ◌*◌, ◌/◌, ◌%◌, ◌^◌, ◌≤◌, ◌<◌, Bool, false, leb, Float}
use Rattle.std.specs.Int.Count.{count_leading_zeros}
use Rattle.std.specs.Float.Ieee.Exact.{HasValue}
use Rattle.double.specs.declared.Normal.{Normal}

-- the highest bit of the pattern b: whether the number is negative
abbrev pub sign_of : ℕ → Bool
sign_of b = leb (2 ^ 63) b

-- 01: "Doubles are classed by exponent field: 0, 1 to 2046, or 2047"
abbrev pub field_of : ℕ → ℕ
field_of b = b / 2 ^ 52 % 2 ^ 11

-- the lowest 52 bits: the digits below the leading one
abbrev pub digits_of : ℕ → ℕ
digits_of b = b % 2 ^ 52

-- x is finite, has the sign s, and is n units in size
abbrev pub Sized : Float → Bool → ℕ → Type 0
Sized x s n = HasValue x s n (2 ^ 1074)

-- x is finite, has no sign, and is n units
abbrev pub Units : Float → ℕ → Type 0
Units x n = Sized x false n

-- The size in units by the field and the digits t. At the field 0 the digits are the units; from the field 1 on they stand under a leading
-- one, and each field doubles.
unfoldable pub mag : ℕ → ℕ → ℕ
mag zero t = t
mag (suc j) t = (2 ^ 52 + t) * 2 ^ j

-- How far the digits t of a subnormal are shifted to bring their leading one to 2^52. Of 64 places that one's has 11 above it.
unfoldable pub shift : ℕ → ℕ
unfolding count_leading_zeros
shift t = count_leading_zeros 64 t - 11

-- A positive finite double as m * 2^(k - 1126) with m from 2^52 up to 2^53, by its field and digits: k is 51 above the field, and a
-- subnormal is brought into that form.
unfoldable pub normal_of : ℕ → ℕ → Normal
unfolding shift
normal_of zero t = record { m = t * 2 ^ shift t; k = 52 - shift t }
normal_of (suc j) t = record { m = 2 ^ 52 + t; k = suc j + 51 }

-- n has 53 digits, and its exponent is one of a finite double's
abbrev pub InNormalForm : Normal → Type 0
InNormalForm n = (2 ^ 52 ≤ n.m) × (n.m < 2 ^ 53) × (n.k < 2098)
