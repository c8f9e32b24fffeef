-- `log` meets its contract: the tests of the code are those of the specification, whose field is the upper bits of a pattern without sign.
-- Assumes nothing.
use Rattle.std.proofs.Common.{◌≡◌, ℕ, ◌+◌, ◌/◌, ◌^◌, ◌<◌, false, sym, ap, ◌∙◌, arith, le-leb}
use lib.Ieee.{Float, binary64, is_nan, to_bits}
use borrow.Author.Tests.{lt-leb}
use Rattle.double.specs.declared.Normal.{Normal}
use Rattle.double.specs.Fields.{field_of, digits_of}
use Rattle.double.proofs.NotNan.{is_nan-only}
use Rattle.double.proofs.Normalised.{Normalised, of_low}
use Rattle.logarithm.specs.Steps.{positive_of, by_field_of, log_of}
use Rattle.logarithm.proofs.Cases.{minus_infinity, infinity, field_of-zero, field_low, field_mid, field_top, log_of_nan, log-signed}
use Rattle.logarithm.proofs.Cases.{log-unsigned}
use Rattle.logarithm.proofs.log.Goals as goal

-- a number's pattern, and the pattern's field where the sign is not set
abbrev pattern : Float → ℕ
pattern x = to_bits binary64 x

plain_field : (b : ℕ) → b < 2 ^ 63 → b / 2 ^ 52 ≡ field_of b
plain_field b h = omega arith

pub returns-then-is_nan : goal.returns-then-is_nan
returns-then-is_nan c =
    log_of_nan c.args.x c.nan.result (is_nan-only c.args.x (sym c.if-is_nan.ensures.value)) c.nan.ensures

pub returns-then-b-ge9223372036854775808 : goal.returns-then-b-ge9223372036854775808
returns-then-b-ge9223372036854775808 c =
    log-signed c.args.x _ (sym c.if-is_nan.ensures.value) (le-leb (2 ^ 63) (pattern c.args.x) c.if-b-ge9223372036854775808.true)
    minus_infinity

-- the rest has no sign
unsigned :
    (x r : Float) → false ≡ is_nan x → pattern x < 2 ^ 63 → r ≡ by_field_of (field_of (pattern x)) (digits_of (pattern x)) → r ≡ log_of x
unsigned x r h s k = log-unsigned x r (sym h) (lt-leb (2 ^ 63) (pattern x) s) k

pub returns-then-digits-eq0 : goal.returns-then-digits-eq0
returns-then-digits-eq0 c =
    let b = pattern c.args.x in
    unsigned c.args.x _ c.if-is_nan.ensures.value c.if-b-ge9223372036854775808.false
    (minus_infinity ∙ field_of-zero (field_of b) (digits_of b) (omega arith) c.if-digits-eq0.true)

pub positive-requires : goal.positive-requires
positive-requires c =
    let d = digits_of (pattern c.args.x) in
    let n : Normalised d c.normal_of_low.result.m c.normal_of_low.result.k =
    of_low d c.normal_of_low.result (omega arith) (omega arith) c.normal_of_low.ensures in
    (n.from, n.to, n.most)

pub returns-else-digits-eq0 : goal.returns-else-digits-eq0
returns-else-digits-eq0 c =
    let b = pattern c.args.x in
    unsigned c.args.x c.positive.result c.if-is_nan.ensures.value c.if-b-ge9223372036854775808.false
    (field_low (field_of b) (digits_of b) c.positive.result (omega arith) c.if-digits-eq0.false
    (c.positive.ensures ∙ ap (λ (n : Normal). positive_of n.m n.k) c.normal_of_low.ensures))

pub returns-in-1-to-2046 : goal.returns-in-1-to-2046
returns-in-1-to-2046 c =
    let b = pattern c.args.x in
    unsigned c.args.x c.positive-in-1-to-2046.result c.if-is_nan.ensures.value c.if-b-ge9223372036854775808.false
    (field_mid (field_of b) (digits_of b) c.positive-in-1-to-2046.result (omega arith) (omega arith)
    (c.positive-in-1-to-2046.ensures
    ∙ ap (λ (f : ℕ). positive_of (2 ^ 52 + digits_of b) (f + 51)) (plain_field b c.if-b-ge9223372036854775808.false)))

pub returns-in_default : goal.returns-in_default
returns-in_default c =
    let b = pattern c.args.x in
    unsigned c.args.x _ c.if-is_nan.ensures.value c.if-b-ge9223372036854775808.false
    (infinity ∙ field_top (field_of b) (digits_of b) (omega arith))
