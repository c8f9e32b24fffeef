-- What document 01 asks of the logarithm, as one statement about log_of. Definitions only; proofs/Promise proves it.
use Rattle.std.specs.Prelude.{◌≡◌, ℕ, suc, ◌+◌, ◌*◌, ◌^◌, ◌<◌, ◌≤◌, max, Bool, true, false, cond, T, ℤ, pos, Float}
use Rattle.std.specs.Float.{nan, inf, fin, binary64}
use Rattle.std.specs.Float.Ieee.{fits, up, down}
use Rattle.double.specs.Numbers.{#0, #1}
use Rattle.double.specs.Fields.{Sized}
use Rattle.rounding.specs.Within.{Within}
use Rattle.series.specs.Series.{Signed, Written, rise, fall, lAt, lOf, magnitude}
use Rattle.logarithm.specs.Steps.{log_of}

-- 01: "the distance from L(x) is at most 2^-44·max(1, |L(x)|)", of an answer r and l = L(x). There are no real numbers here:
-- r is (above - below) / 2^1074 and l is (plus - less) / over, and both sides are multiplied by 2^44 · 2^1074 · over.
pub record Close (r : Float) (l : Signed) : Type 0 where
  pub sign : Bool
  pub units : ℕ
  pub value : Sized r sign units
  pub distance :
      Within (2 ^ 44 * (cond sign 0 units * l.over + l.less * 2 ^ 1074)) (2 ^ 44 * (cond sign units 0 * l.over + l.plus * 2 ^ 1074))
      (max l.over (magnitude l) * 2 ^ 1074)

-- r is a finite number below 0
pub record Negative (r : Float) : Type 0 where
  pub units : ℕ
  pub positive : 0 < units
  pub value : Sized r true units

-- r is a finite number from +0 up, and not -0
pub record NotNegative (r : Float) : Type 0 where
  pub units : ℕ
  pub value : Sized r false units

-- The double fin s m e is ±m·2^e, and 2^e is up e / down e. A positive finite double has m = suc n.
pub record Promise : Type 0 where
  -- 01: "zero or below gives minus infinity"
  pub of_zero : (s : Bool) → log_of (fin s 0 (pos 0)) ≡ inf true
  pub of_negative : (m : ℕ) (e : ℤ) → T (fits binary64 (fin true m e)) → log_of (fin true m e) ≡ inf true
  pub of_minus_infinity : log_of (inf true) ≡ inf true
  -- 01: "NaN gives NaN, +infinity itself"
  pub of_nan : log_of nan ≡ nan
  pub of_infinity : log_of (inf false) ≡ inf false
  -- 01: "log 1 is +0"
  pub of_one : log_of #1 ≡ #0
  -- 01: "otherwise the distance from L(x) is at most 2^-44·max(1, |L(x)|)"
  pub otherwise :
      (n : ℕ) (e : ℤ) → T (fits binary64 (fin false (suc n) e)) → Close (log_of (fin false (suc n) e)) (lOf (suc n * up e) (down e))
  -- 01: "for a positive fraction x = m·2^k with m in [1,2)": lOf's k and m are such, and by any other such k and m the distance is as small
  pub k_and_m :
      (n : ℕ) (e : ℤ) → let a = suc n * up e in let b = down e in Written a b (rise a b) (fall a b) (a * 2 ^ fall a b) (b * 2 ^ rise a b)
  pub by_any_k_and_m :
      (n : ℕ) (e : ℤ) → T (fits binary64 (fin false (suc n) e)) → (r f c d : ℕ) → Written (suc n * up e) (down e) r f c d
      → Close (log_of (fin false (suc n) e)) (lAt r f c d)
  -- not in 01: the sign of log x is that of x - 1, and no answer is -0
  pub below_one : (n : ℕ) (e : ℤ) → T (fits binary64 (fin false (suc n) e)) → suc n * up e < down e → Negative (log_of (fin false (suc n) e))
  pub from_one :
      (n : ℕ) (e : ℤ) → T (fits binary64 (fin false (suc n) e)) → down e ≤ suc n * up e → NotNegative (log_of (fin false (suc n) e))
