-- The computed logarithm of a rounded quotient is near L of the exact one: |l - L(a/b)| ≤ 2^-42·(1 + |l|), and |l| is at most 2^12. Assumes
-- nothing.
use mathlib.Core.Path.{◌≡◌, sym, ap, ◌∙◌, subst}
use mathlib.Core.Bool.{Bool, true, false, true≢false}
use Prim.Native.Nat.{ℕ, zero, suc, ◌+◌, ◌-◌, ◌*◌, ◌^◌, ◌≤◌, ◌<◌, max}
use native.Mathlib.Nat.{add_comm, mul-pos, mul_assoc, zero-mul}
use native.Mathlib.Omega.{arith}
use lib.Dec.{T}
use lib.Pow.{pow_pos}
use lib.Ieee.{Float, nan, inf, fin, binary64, fits, up, down}
use lib.Ieee.Fits.{up_pos, down_pos}
use Rattle.double.specs.Fields.{Sized}
use Rattle.rounding.specs.Within.{Within}
use Rattle.series.specs.Series.{Signed, Same, lOf}
use Rattle.series.proofs.SameFraction.{L-of_equal}
use Rattle.series.proofs.SignedFractions.{over_pos_of}
use Rattle.logarithm.specs.Steps.{log_of}
use Rattle.logarithm.specs.Bound.{Close}
use Rattle.logarithm.proofs.Bound.{close_moves}
use Rattle.logarithm.proofs.Promise.{promise}
use Rattle.series.specs.change.Distances.{Apart}
use Rattle.series.proofs.change.Distances.{difference_moves}
use Rattle.series.proofs.change.RelativeChange.{L-relative}
use Rattle.rounding.specs.errors.Errors.{above, below}
use Rattle.certain.proofs.LogSum.{log-sum, log-most}

-- log of g units, g above 0: 01's bound, with L on the units
pub close_in_units : (q : Float) (g : ℕ) → T (fits binary64 q) → 0 < g → Sized q false g → Close (log_of q) (lOf g (2 ^ 1074))
close_in_units nan g F pg h = absurd h
close_in_units (inf s) g F pg h = absurd h
close_in_units (fin true m e) g F pg h = absurd (true≢false h.0)
close_in_units (fin false zero e) g F pg h = absurd (nothing (up e) g (down e) (2 ^ 1074) (mul-pos pg (down_pos e)) h.1)
  where
    nothing : (u g d U : ℕ) → 0 < g * d → 0 * u * U ≡ g * d → ⊥
    nothing u g d U p e = none (g * d) p (sym e ∙ ap (λ (t : ℕ). t * U) (zero-mul u) ∙ zero-mul U)
      where
        none : (x : ℕ) → 0 < x → x ≡ 0 → ⊥
        none x p e = omega arith
close_in_units (fin false (suc n) e) g F pg h =
    close_moves (log_of (fin false (suc n) e)) (over_pos_of (suc n * up e) (down e) (down_pos e)) (over_pos_of g (2 ^ 1074) (pow_pos 1074))
    (L-of_equal (suc n * up e) (down e) g (2 ^ 1074) (mul-pos {m = suc n} (omega arith) (up_pos e)) (down_pos e) pg (pow_pos 1074) h.1)
    (promise.otherwise n e F)

-- the quotient g/U is a/b, but for its rounding
pub moved_little :
    (a b g U : ℕ) → 0 < a → 0 < b → 0 < g → 0 < U → Within (g * b * 2 ^ 53) (a * U * 2 ^ 53) (a * U) → Apart (2 ^ 52) (lOf a b) (lOf g U)
moved_little a b g U pa pb pg pU w =
    let bU : 0 < b * U = mul-pos pb pU in
    let aU : 0 < a * U = mul-pos pa pU in
    let gb : 0 < g * b = mul-pos pg pb in
    let p : Apart (2 ^ 52) (lOf (a * U) (b * U)) (lOf (g * b) (b * U)) =
    L-relative (a * U) (g * b) (b * U) (2 ^ 52) aU gb bU (pow_pos 52) w.not-above w.not-below in
    let x : Same (lOf (a * U) (b * U)) (lOf a b) = L-of_equal (a * U) (b * U) a b aU bU pa pb (first a b U) in
    let y : Same (lOf (g * b) (b * U)) (lOf g U) = L-of_equal (g * b) (b * U) g U gb bU pg pU (mul_assoc g b U) in
    let ox = over_pos_of (a * U) (b * U) bU in
    let oy = over_pos_of (g * b) (b * U) bU in
    record { ahead = difference_moves (2 ^ 52) 1 ox oy x y p.ahead; behind = difference_moves (2 ^ 52) 1 oy ox y x p.behind }
  where
    first : (a b U : ℕ) → a * U * b ≡ a * (b * U)
    first a b U = omega arith

-- l = (lp - lm)/U is at most x = (p - m)/o and 2^-42·(1 + h/U), both sides multiplied by 2^42 · U · o; U is 2^1074
abbrev LogAtMost : ℕ → ℕ → ℕ → ℕ → ℕ → ℕ → Type 0
LogAtMost lp lm h p m o = 2 ^ 42 * (lp * o + m * 2 ^ 1074) ≤ 2 ^ 42 * (lm * o + p * 2 ^ 1074) + (2 ^ 1074 + h) * o

-- l is ±h units; L(a/b) is x
pub record LogNear (l : Float) (x : Signed) : Type 0 where
  pub sign : Bool
  pub units : ℕ
  pub is : Sized l sign units
  pub not-above : LogAtMost (above sign units) (below sign units) units x.plus x.less x.over
  pub not-below : LogAtMost (below sign units) (above sign units) units x.less x.plus x.over

both : (s : Bool) (n : ℕ) → above s n + below s n ≡ n
both true n = omega arith
both false n = omega arith

both_turned : (s : Bool) (n : ℕ) → below s n + above s n ≡ n
both_turned true n = omega arith
both_turned false n = omega arith

-- 01's bound of the logarithm, one side of it, by the size n of max(1, |y|)'s second
abbrev CloseAtMost : ℕ → ℕ → ℕ → ℕ → ℕ → ℕ → Type 0
CloseAtMost lp lm p m o n = 2 ^ 44 * (lp * o + m * 2 ^ 1074) ≤ 2 ^ 44 * (lm * o + p * 2 ^ 1074) + max o n * 2 ^ 1074

module _ (l : Float) {x y : Signed} (py : 0 < y.over) (c : Close l y) (apart : Apart (2 ^ 52) x y) where
  abbrev lp : ℕ
  lp = above c.sign c.units

  abbrev lm : ℕ
  lm = below c.sign c.units

  -- |y| does not mind which way round it is written
  size_turned : y.plus - y.less + (y.less - y.plus) ≡ y.less - y.plus + (y.plus - y.less)
  size_turned = add_comm (y.plus - y.less) (y.less - y.plus)

  near_of : LogNear l x
  near_of = record {
    sign = c.sign;
    units = c.units;
    is = c.value;
    not-above =
        subst (λ (h : ℕ). LogAtMost lp lm h x.plus x.less x.over) (both c.sign c.units)
        (log-sum lp lm y.over y.plus y.less (2 ^ 1074) x.over x.plus x.less py c.distance.not-above
        c.distance.not-below apart.ahead);
    not-below =
        subst (λ (h : ℕ). LogAtMost lm lp h x.less x.plus x.over) (both_turned c.sign c.units)
        (log-sum lm lp y.over y.less y.plus (2 ^ 1074) x.over x.less x.plus py
        (subst (λ (n : ℕ). CloseAtMost lm lp y.less y.plus y.over n) size_turned c.distance.not-below)
        (subst (λ (n : ℕ). CloseAtMost lp lm y.plus y.less y.over n) size_turned c.distance.not-above)
        (turned x.plus x.less x.over y.plus y.less y.over apart.behind));
  }
    where
      turned : (P M O p m o : ℕ) → 2 ^ 52 * (P * o + m * O) ≤ 2 ^ 52 * (p * O + M * o) + 1 * (o * O)
          → 2 ^ 52 * (m * O + P * o) ≤ 2 ^ 52 * (M * o + p * O) + 1 * (O * o)
      turned P M O p m o h = omega arith

-- l is the computed logarithm of a/b, rounded to g units
pub log_of-quotient :
    (q : Float) (a b g : ℕ) → T (fits binary64 q) → 0 < a → 0 < b → 0 < g → Sized q false g
    → Within (g * b * 2 ^ 53) (a * 2 ^ 1074 * 2 ^ 53) (a * 2 ^ 1074)
    → LogNear (log_of q) (lOf a b)
log_of-quotient q a b g F pa pb pg h w =
    near_of (log_of q) (over_pos_of g (2 ^ 1074) (pow_pos 1074)) (close_in_units q g F pg h)
    (moved_little a b g (2 ^ 1074) pa pb pg (pow_pos 1074) w)

-- |l| is at most 2^12 where |x| is at most 2003
pub log-size : (l : Float) (x : Signed) → 0 < x.over → x.plus + x.less ≤ 2003 * x.over → (n : LogNear l x) → n.units ≤ 4096 * 2 ^ 1074
log-size l x po most n = go n.sign n.not-above n.not-below
  where
    first : (p m z : ℕ) → p + m ≤ z → p ≤ z
    first p m z h = omega arith

    second : (p m z : ℕ) → p + m ≤ z → m ≤ z
    second p m z h = omega arith

    go : (s : Bool) → LogAtMost (above s n.units) (below s n.units) n.units x.plus x.less x.over
        → LogAtMost (below s n.units) (above s n.units) n.units x.less x.plus x.over → n.units ≤ 4096 * 2 ^ 1074
    go false hi lo = log-most n.units x.over x.plus x.less (2 ^ 1074) po (first _ _ _ most) hi
    go true hi lo = log-most n.units x.over x.less x.plus (2 ^ 1074) po (second _ _ _ most) lo
