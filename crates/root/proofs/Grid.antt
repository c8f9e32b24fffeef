-- Every double is a multiple of its last place, and all doubles from 2^52 last places on are multiples of that place. Assumes nothing.
use mathlib.Core.Path.{◌≡◌, refl, sym, ap, subst, ◌∙◌}
use mathlib.Core.Bool.{false}
use Prim.Native.Nat.{ℕ, zero, suc, ◌+◌, ◌-◌, ◌*◌, ◌^◌, ◌≤◌, ◌<◌}
use native.Mathlib.Nat.{mul-le-mul_right, lt_of_mul-lt-mul_right, mul_assoc, mul-one, lt_of_not-le, lt_irrefl, lt_of_lt_of_le, le_trans}
use native.Mathlib.Decide.{dec_le}
use native.Mathlib.Omega.{arith}
use lib.Dec.{T}
use lib.Pow.{pow-add, pow_mono, shl_lt}
use lib.Ieee.{Float, binary64, fits, to_bits}
use Rattle.double.specs.Fields.{field_of, digits_of, Units, mag}
use Rattle.double.proofs.Fields.{digits_lt, read}

-- w units are q of 2^j units, q a number of 53 digits
pub record Places (w : ℕ) : Type 0 where
  pub q : ℕ
  pub j : ℕ
  pub short : q < 2 ^ 53
  pub is : w ≡ q * 2 ^ j

of-mag : (f t : ℕ) → t < 2 ^ 52 → Places (mag f t)
unfolding mag
of-mag zero t h = record { q = t; j = 0; short = omega arith; is = sym (mul-one t) }
of-mag (suc j) t h = record { q = 2 ^ 52 + t; j = j; short = omega arith; is = refl }

pub places : (y : Float) (w : ℕ) → T (fits binary64 y) → Units y w → Places w
places y w F u =
    subst Places (sym (read y false w F u).size)
    (of-mag (field_of (to_bits binary64 y)) (digits_of (to_bits binary64 y)) (digits_lt (to_bits binary64 y)))

pub on_grid : (w g : ℕ) → Places w → 2 ^ (52 + g) ≤ w → (z : ℕ) × (w ≡ z * 2 ^ g)
on_grid w g d h = go (dec_le g d.j)
  where
    join : (a b : ℕ) → a ≤ b → b - a + a ≡ b
    join a b k = omega arith

    fewer : (a b : ℕ) → a < b → 53 + a ≤ 52 + b
    fewer a b k = omega arith

    go : Dec (g ≤ d.j) → (z : ℕ) × (w ≡ z * 2 ^ g)
    go (yes k) = (
      d.q * 2 ^ (d.j - g),
      d.is ∙ ap (λ (a : ℕ). d.q * a) (ap (λ (a : ℕ). 2 ^ a) (sym (join g d.j k)) ∙ pow-add 2 (d.j - g) g)
          ∙ sym (mul_assoc d.q (2 ^ (d.j - g)) (2 ^ g)),
    )
    go (no k) =
        absurd (lt_irrefl w
        (lt_of_lt_of_le (subst (λ (a : ℕ). a < 2 ^ (53 + d.j)) (sym d.is) (shl_lt 53 d.j d.short))
        (le_trans (pow_mono (fewer d.j g (lt_of_not-le k))) h)))

-- of two different multiples of c the larger is c above the smaller at least
pub next : (z q c : ℕ) → z * c < q * c → z * c + c ≤ q * c
next z q c h = subst (λ (k : ℕ). k ≤ q * c) (shape z c) (mul-le-mul_right c (up z q (lt_of_mul-lt-mul_right c h)))
  where
    shape : (z c : ℕ) → (z + 1) * c ≡ z * c + c
    shape z c = omega arith

    up : (a b : ℕ) → a < b → a + 1 ≤ b
    up a b k = omega arith
