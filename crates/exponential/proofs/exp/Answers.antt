-- `exp` meets its contract: each class of the exponent field by its case of the definition. Assumes nothing.
use Rattle.std.proofs.Common.{◌≡◌, ℕ, ◌+◌, ◌*◌, ◌/◌, ◌%◌, ◌^◌, ◌<◌, ◌≤◌, true, false, T, sym, ap, ◌∙◌, subst, div-add-mod', arith}
use lib.Ieee.{Float, binary64, fits, of_bits, to_bits, neg, div}
use Rattle.double.specs.Operators.{◌≺◌}
use Rattle.double.specs.Numbers.{#708, #709}
use Rattle.double.specs.Fields.{sign_of, field_of, digits_of, mag}
use Rattle.exponential.specs.declared.place.Point.{Point}
use Rattle.exponential.specs.Steps.{raised, point_of, exp_at, InRange, NormalFields}
use Rattle.exponential.specs.Bound.{Between}
use Rattle.exponential.proofs.Cases.{class_0, above_709, below_708, between, number_of_class, top_positive, top_negative, top_else}
use Rattle.exponential.proofs.Fractions.{normal_of, range_of_normal}
use Rattle.exponential.proofs.exp.Goals as goal

held : (x : Float) → fits binary64 x ≡ true → T (fits binary64 x)
held x h = subst T (sym h) tt

-- the class, as a fact on the pattern of x
field_is : (x : Float) (b : ℕ) → b ≡ to_bits binary64 x → b / 2 ^ 52 % 2048 ≡ field_of (to_bits binary64 x)
field_is x b e = ap field_of e

top : (x : Float) (b : ℕ) → b ≡ to_bits binary64 x → 2047 ≤ b / 2 ^ 52 % 2048 → field_of (to_bits binary64 x) ≡ 2047
top x b e l = sym (field_is x b e) ∙ is_top
  where
    is_top : b / 2 ^ 52 % 2048 ≡ 2047
    is_top = omega arith

-- between the ends
module _ (x : Float) (b : ℕ) (e : b ≡ to_bits binary64 x) (is : Between x) (low : 1 ≤ b / 2 ^ 52 % 2048) where
  normal : NormalFields (sign_of b) (field_of b) (digits_of b)
  normal =
      subst (λ (p : ℕ). NormalFields (sign_of p) (field_of p) (digits_of p)) (sym e)
      (normal_of x is (subst (λ (f : ℕ). 1 ≤ f) (field_is x b e) low))

  range : InRange (raised (sign_of b) (mag (field_of b) (digits_of b)) (2 ^ 1074) / 2048)
  range = range_of_normal (sign_of b) (field_of b) (digits_of b) normal

is_between :
    (x : Float) (b : ℕ) → b ≡ to_bits binary64 x → fits binary64 x ≡ true → b / 2 ^ 52 % 2048 < 2047 → (#709 ≺ x) ≡ false
    → (x ≺ neg #708) ≡ false → Between x
is_between x b e f c o u = record {
  holds = held x f;
  number = number_of_class x (subst (λ (k : ℕ). k < 2047) (field_is x b e) c);
  not-over = o;
  not-under = u;
}

pub returns-then-x : goal.returns-then-x
unfolding div of_bits
returns-then-x c = above_709 _ c.if-x.true

pub returns-then-x-2 : goal.returns-then-x-2
returns-then-x-2 c = below_708 _ c.if-x-2.true

pub locate-requires : goal.locate-requires
locate-requires c =
    let x = c.args.x in
    let b = c.to_bits-b.result in
    let e = c.to_bits-b.ensures in
    normal x b e (is_between x b e c.well_formed.0.1 (omega arith) c.if-x.false c.if-x-2.false) (omega arith)

-- the point is that of the definition
point-of : (p : Point) (w : ℕ) → p ≡ point_of w → InRange (w / 2048) → InRange p.whole × (p.part < 2048)
unfolding point_of
point-of p w e h = subst (λ (q : Point). InRange q.whole × (q.part < 2048)) (sym e) (h, omega arith)

exp_at-point : (p : Point) (w : ℕ) → p ≡ point_of w → exp_at (p.whole * 2048 + p.part) ≡ exp_at w
unfolding point_of
exp_at-point p w e = ap (λ (q : Point). exp_at (q.whole * 2048 + q.part)) e ∙ ap exp_at (div-add-mod' w 2048)

pub exp_at-requires : goal.exp_at-requires
exp_at-requires c =
    let x = c.args.x in
    let b = c.to_bits-b.result in
    let e = c.to_bits-b.ensures in
    point-of _ _ c.locate.ensures
    (range x b e (is_between x b e c.well_formed.0.1 (omega arith) c.if-x.false c.if-x-2.false) (omega arith))

pub returns-then-x-3 : goal.returns-then-x-3
returns-then-x-3 c =
    let x = c.args.x in
    top_positive x (held x c.well_formed.0.1) (top x _ c.to_bits-b.ensures (omega arith)) c.if-x-3.true

pub returns-then-x-4 : goal.returns-then-x-4
returns-then-x-4 c =
    let x = c.args.x in
    top_negative x (held x c.well_formed.0.1) (top x _ c.to_bits-b.ensures (omega arith)) c.if-x-4.true

pub returns-in-0 : goal.returns-in-0
returns-in-0 c =
    let x = c.args.x in
    class_0 x (held x c.well_formed.0.1) (sym (field_is x c.to_bits-b.result c.to_bits-b.ensures) ∙ c.in-0.is)

pub returns-else-x-2 : goal.returns-else-x-2
returns-else-x-2 c =
    let x = c.args.x in
    let b = c.to_bits-b.result in
    let e = c.to_bits-b.ensures in
    let is = is_between x b e c.well_formed.0.1 (omega arith) c.if-x.false c.if-x-2.false in
    c.exp_at.ensures ∙ exp_at-point _ _ c.locate.ensures
    ∙ ap (λ (p : ℕ). exp_at (raised (sign_of p) (mag (field_of p) (digits_of p)) (2 ^ 1074))) e
    ∙ between x is.number is.not-over is.not-under

pub returns-else-x-4 : goal.returns-else-x-4
returns-else-x-4 c =
    let x = c.args.x in
    c.nan.ensures ∙ top_else x (held x c.well_formed.0.1) (top x _ c.to_bits-b.ensures (omega arith)) c.if-x-3.false c.if-x-4.false
