-- `under_root` meets its contract: each return is the case of both roots that the tests before it lead to. Assumes nothing.
use mathlib.Core.Path.{◌≡◌, sym, ap, ◌∙◌}
use mathlib.Core.Bool.{false}
use Prim.Native.Nat.{ℕ, ◌^◌, ◌<◌}
use native.Mathlib.Omega.{arith}
use lib.Ieee.{Float, binary64, is_nan, to_bits}
use Rattle.double.specs.Fields.{field_of, digits_of}
use Rattle.double.proofs.Normalised.{Normalised, of_low, of_mid}
use Rattle.double.proofs.NotNan.{is_nan-only}
use Rattle.root.specs.Steps.{root_of, sqrt_fields, sqrt_bits, sqrt_of}
use Rattle.root.specs.table_root.Steps.{unstepped, table_root_of, table_sqrt_fields, table_sqrt_bits, table_sqrt_of}
use Rattle.root.proofs.Cases as plain
use Rattle.root.proofs.table_root.Cases as tabled
use Rattle.root.proofs.under_root.Goals as goal

-- the argument's pattern, and its fields
abbrev b : Float → ℕ
b x = to_bits binary64 x

abbrev f : Float → ℕ
f x = field_of (b x)

abbrev t : Float → ℕ
t x = digits_of (b x)

-- past the first test
module _ (x : Float) (h : false ≡ is_nan x) where
  bits : sqrt_of x ≡ sqrt_bits x (b x)
  bits = plain.by_bits x (sym h)

  table_bits : table_sqrt_of x ≡ table_sqrt_bits x (b x)
  table_bits = tabled.by_bits x (sym h)

  -- past the second: no sign
  fields : b x < 2 ^ 63 → sqrt_of x ≡ sqrt_fields x (f x) (t x)
  fields s = bits ∙ plain.by_fields x (b x) s

  table_fields : b x < 2 ^ 63 → table_sqrt_of x ≡ table_sqrt_fields x (f x) (t x)
  table_fields s = table_bits ∙ tabled.by_fields x (b x) s

pub returns-then-is_nan : goal.returns-then-is_nan
returns-then-is_nan c =
    let x = c.args.x in
    let h = is_nan-only x (sym c.if-is_nan.ensures.value) in
    (sym (c.nan.ensures ∙ plain.of_nan x h), sym (ap unstepped c.nan.ensures ∙ tabled.of_nan x h))

pub returns-then-b : goal.returns-then-b
returns-then-b c =
    let x = c.args.x in
    let h = c.if-is_nan.ensures.value in
    let z = c.if-b-ge9223372036854775808.true in
    (bits x h ∙ plain.of_minus_zero x (b x) z (omega arith), table_bits x h ∙ tabled.of_minus_zero x (b x) z (omega arith))

pub returns-then-b-ge9223372036854775808 : goal.returns-then-b-ge9223372036854775808
returns-then-b-ge9223372036854775808 c =
    let x = c.args.x in
    let h = c.if-is_nan.ensures.value in
    let s = c.if-b-ge9223372036854775808.true in
    let e = c.nan-then-b-ge9223372036854775808.ensures in (
      bits x h ∙ plain.of_negative x (b x) s c.if-b.false ∙ sym e,
      table_bits x h ∙ tabled.of_negative x (b x) s c.if-b.false ∙ ap unstepped (sym e),
    )

pub returns-then-t-eq0 : goal.returns-then-t-eq0
returns-then-t-eq0 c =
    let x = c.args.x in
    let h = c.if-is_nan.ensures.value in
    let s = c.if-b-ge9223372036854775808.false in (
      fields x h s ∙ plain.of_zero x (f x) (t x) c.in-0.is c.if-t-eq0.true,
      table_fields x h s ∙ tabled.of_zero x (f x) (t x) c.in-0.is c.if-t-eq0.true,
    )

pub returns-else-t-eq0 : goal.returns-else-t-eq0
returns-else-t-eq0 c =
    let x = c.args.x in
    let h = c.if-is_nan.ensures.value in
    let s = c.if-b-ge9223372036854775808.false in
    let e = c.normal_of_low.ensures in
    let r = c.normal_of_low.result in
    let n : Normalised (t x) r.m r.k = of_low (t x) r (omega arith) (omega arith) e in (
      (n.from, n.to, n.most),
      fields x h s ∙ plain.of_subnormal x (f x) (t x) c.in-0.is c.if-t-eq0.false ∙ ap root_of (sym e),
      table_fields x h s ∙ tabled.of_subnormal x (f x) (t x) c.in-0.is c.if-t-eq0.false ∙ ap table_root_of (sym e),
    )

pub returns-in-1-to-2046 : goal.returns-in-1-to-2046
returns-in-1-to-2046 c =
    let x = c.args.x in
    let h = c.if-is_nan.ensures.value in
    let s = c.if-b-ge9223372036854775808.false in
    let some : f x ≡ 0 → ⊥ = omega arith in
    let e = of_mid (f x) (t x) some in (
      (omega arith, omega arith, omega arith),
      fields x h s ∙ plain.of_normal x (f x) (t x) some (omega arith) ∙ ap root_of e,
      table_fields x h s ∙ tabled.of_normal x (f x) (t x) some (omega arith) ∙ ap table_root_of e,
    )

pub returns-in_default : goal.returns-in_default
returns-in_default c =
    let x = c.args.x in
    let h = c.if-is_nan.ensures.value in
    let s = c.if-b-ge9223372036854775808.false in (
      fields x h s ∙ plain.of_infinity x (f x) (t x) (omega arith),
      table_fields x h s ∙ tabled.of_infinity x (f x) (t x) (omega arith),
    )
