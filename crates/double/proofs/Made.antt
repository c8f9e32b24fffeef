-- A double put together as the pattern j * 2^52 + q, with the leading one left in q, from 2^52 up to and including 2^53. It carries into
-- the field by itself. Assumes nothing.
use mathlib.Core.Path.{◌≡◌, sym, ap, subst, ◌∙◌}
use mathlib.Core.Logic.{◌⊎◌, inl, inr}
use mathlib.Core.Bool.{Bool, false, not}
use Prim.Native.Nat.{ℕ, suc, ◌+◌, ◌-◌, ◌*◌, ◌%◌, ◌^◌, ◌≤◌, ◌<◌}
use native.Mathlib.Nat.{eq-or-lt_of_le, pow-succ', mul_assoc}
use native.Mathlib.Omega.{arith}
use borrow.Author.Tests.{lt-leb, le-ltb}
use lib.Dec.{T}
use lib.Ieee.{Float, binary64, of_bits, of_fields, nan_bits}
use lib.Ieee.Bits.{nan_bits_above}
use Rattle.double.specs.Fields.{sign_of, field_of, digits_of, Units}
use Rattle.double.proofs.Fields.{of_bits_is, mid_value}

-- the field j + 1 over the digits t
pub of_parts : (j t : ℕ) → j < 2046 → t < 2 ^ 52 → Units (of_bits binary64 (suc j * 2 ^ 52 + t)) ((2 ^ 52 + t) * 2 ^ j)
of_parts j t h l =
    let b = suc j * 2 ^ 52 + t in
    let f : field_of b ≡ suc j = omega arith in
    let d : digits_of b ≡ t = omega arith in
    let s : sign_of b ≡ false = lt-leb (2 ^ 63) b (omega arith) in
    subst (λ (x : Float). Units x ((2 ^ 52 + t) * 2 ^ j))
    (sym (of_bits_is b
    ∙ ap (λ (k : Bool). of_fields binary64 k (field_of b) (digits_of b)) s
    ∙ ap (λ (k : ℕ). of_fields binary64 false k (digits_of b)) f
    ∙ ap (λ (k : ℕ). of_fields binary64 false (suc j) k) d))
    (mid_value false j t h)

pub made : (j q : ℕ) → 2 ^ 52 ≤ q → q ≤ 2 ^ 53 → j * 2 ^ 52 + q < 2047 * 2 ^ 52 → Units (of_bits binary64 (j * 2 ^ 52 + q)) (q * 2 ^ j)
made j q a b h = go (eq-or-lt_of_le b)
  where
    go : (q ≡ 2 ^ 53) ⊎ (q < 2 ^ 53) → Units (of_bits binary64 (j * 2 ^ 52 + q)) (q * 2 ^ j)
    go (inl e) =
        let pattern : suc (suc j) * 2 ^ 52 + 0 ≡ j * 2 ^ 52 + q = omega arith in
        let units : (2 ^ 52 + 0) * 2 ^ suc j ≡ q * 2 ^ j =
        ap (λ (x : ℕ). 2 ^ 52 * x) (pow-succ' 2 j) ∙ sym (mul_assoc (2 ^ 52) 2 (2 ^ j)) ∙ ap (λ (x : ℕ). x * 2 ^ j) (sym e) in
        subst (λ (x : ℕ). Units (of_bits binary64 x) (q * 2 ^ j)) pattern
        (subst (λ (x : ℕ). Units (of_bits binary64 (suc (suc j) * 2 ^ 52 + 0)) x) units (of_parts (suc j) 0 (omega arith) (omega arith)))
    go (inr l) =
        let pattern : suc j * 2 ^ 52 + (q - 2 ^ 52) ≡ j * 2 ^ 52 + q = omega arith in
        let units : 2 ^ 52 + (q - 2 ^ 52) ≡ q = omega arith in
        subst (λ (x : ℕ). Units (of_bits binary64 x) (q * 2 ^ j)) pattern
        (subst (λ (x : ℕ). Units (of_bits binary64 (suc j * 2 ^ 52 + (q - 2 ^ 52))) (x * 2 ^ j)) units
        (of_parts j (q - 2 ^ 52) (omega arith) (omega arith)))

-- no pattern up to an infinity's is a NaN's: what `f64::from_bits` asks
pub number : (b : ℕ) → b ≤ 2047 * 2 ^ 52 → T (not (nan_bits binary64 b))
number b h = subst (λ (t : Bool). T (not t)) (sym (nan_bits_above binary64 b ∙ le-ltb (2047 * 2 ^ 52) (b % 2 ^ 63) (omega arith))) tt
