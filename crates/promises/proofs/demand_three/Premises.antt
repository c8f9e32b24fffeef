-- Demand 3's premises meet the tests of the table's rows: a normal number above zero is at least 2^-1022 and finite, and a number above 0
-- and at most 0.99 is finite. Assumes nothing.
use mathlib.Core.Path.{◌≡◌, refl, sym, subst}
use mathlib.Core.Bool.{Bool, true, false, ◌&&◌}
use mathlib.Core.List.{List, [], ◌∷◌}
use Prim.Native.Nat.{ℕ, suc, ◌+◌, ◌*◌, ◌^◌, ◌≤◌, ◌<◌}
use native.Mathlib.Nat.{mul-le-mul_right}
use native.Mathlib.Omega.{arith}
use lib.Dec.{T}
use lib.Pow.{pow_pos}
use lib.Ieee.{Float, nan, inf, fin, binary64, fits, of_bits, lt, le}
use lib.Ieee.Bits.{is_true}
use lib.Ieee.Exact.{HasValue}
use lib.Ieee.Order.{le_of_values}
use lib.Ieee.Scale.{finite}
use lib.ListN.{length}
use borrow.Author.Tests.{le-leb}
use Rattle.arith.proofs.Branches.{and_both, false_not_true}
use Rattle.double.specs.Operators.{◌≺◌, ◌≼◌}
use Rattle.double.specs.Numbers.{#0, #largest_step, #smallest_normal}
use Rattle.double.proofs.Classes.{Class, low, mid, infinite, no_number, class}
use Rattle.double.proofs.Fields.{finite_of_value}
use Rattle.double.proofs.Numbers.{names_right}
use Rattle.cone.specs.declared.Cone.{Cone}
use Rattle.cone.specs.declared.Settings.{Settings}
use Rattle.judges.specs.Judges.{cone_ok, settings_finite, settings_ok}
use Rattle.search.proofs.Settings.{of_true}
use Rattle.search.specs.plan.Plans.{all_cones_ok, plan_ok}
use Rattle.search.specs.plan.EachCone.{cone_at}
use Rattle.promises.specs.demand_three.Premises.{AcceptedPlan, Normal, Asked}

-- ---- a normal number above zero

not_negative : (x : Float) (a c : ℕ) → T (#0 ≺ x) → HasValue x true a c → ⊥
unfolding lt of_bits
not_negative nan a c p v = v
not_negative (inf s) a c p v = v
not_negative (fin true m e) a c p v = p
not_negative (fin false m e) a c p v = false_not_true v.0

smallest_value : HasValue #smallest_normal false (2 ^ 52) (2 ^ 1074)
unfolding of_bits
smallest_value = (refl, refl)

-- whatever the digits behind the leading one are, and however far it is shifted
with_leading_one : (a t u b : ℕ) → 0 < u → a * b ≤ (a + t) * u * b
with_leading_one a t u b h =
    mul-le-mul_right b (omega (arith, mul-le-mul_right (a + t) h))

by_class : (x : Float) (s : Bool) (f t : ℕ) → 1 ≤ f → f ≤ 2046 → T (#0 ≺ x) → Class x s f t → T (finite x) × T (#smallest_normal ≼ x)
by_class x s f t l h p (low e v) = absurd (omega arith)
by_class x true f t l h p (mid j e b v) = absurd (not_negative x _ _ p v)
by_class x false f t l h p (mid j e b v) = (
  finite_of_value x false _ _ v,
  le_of_values #smallest_normal x (2 ^ 52) (2 ^ 1074) _ (2 ^ 1074) (pow_pos 1074) (pow_pos 1074) smallest_value v
      (with_leading_one (2 ^ 52) t (2 ^ j) (2 ^ 1074) (pow_pos j)),
)
by_class x s f t l h p (infinite e v) = absurd (omega arith)
by_class x s f t l h p (no_number e v) = absurd (omega arith)

normal_taken : (x : Float) → T (fits binary64 x) → Normal x → T (#0 ≺ x) → T (finite x) × T (#smallest_normal ≼ x)
normal_taken x F n p = by_class x _ _ _ n.above_subnormal n.below_infinite p (class x F)

-- ---- the shrink factor

factor_finite : (x : Float) → T (#0 ≺ x) → T (x ≼ #largest_step) → T (finite x)
unfolding lt le of_bits
factor_finite nan p q = p
factor_finite (inf true) p q = p
factor_finite (inf false) p q = q
factor_finite (fin s m e) p q = tt

-- ---- numbers 3 and 4 do not refuse the settings

module _ (s : Settings) (F : T (fits binary64 s.smallest)) (a : Asked s) where
  factor_taken : (s.step ≼ #largest_step) ≡ true
  factor_taken = subst (λ (x : Float). (s.step ≼ x) ≡ true) (sym names_right.largest_step_right) a.factor_at_most

  smallest_taken : T (finite s.smallest) × T (#smallest_normal ≼ s.smallest)
  smallest_taken = normal_taken s.smallest F a.smallest_normal (of_true _ a.smallest_above_zero)

  pub settings_finite_lem : settings_finite s ≡ true
  settings_finite_lem =
      let step = is_true _ (factor_finite s.step (of_true _ a.factor_above_zero) (of_true _ factor_taken)) in
      and_both (finite s.start && finite s.step) _ (and_both (finite s.start) _ a.start_finite step)
      (is_true _ smallest_taken.0)

  pub settings_ok_lem : settings_ok s ≡ true
  settings_ok_lem =
      let two = and_both (#0 ≺ s.start) _ a.start_above_zero a.factor_above_zero in
      let three = and_both (#0 ≺ s.start && #0 ≺ s.step) _ two factor_taken in
      and_both (#0 ≺ s.start && #0 ≺ s.step && s.step ≼ #largest_step) _ three (is_true _ smallest_taken.1)

-- ---- number 1 does not refuse the plan

all_ok : (cs : List Cone) → ((i : ℕ) → i < length cs → cone_ok (cone_at cs i) ≡ true) → all_cones_ok cs ≡ true
unfolding all_cones_ok
all_ok [] h = refl
all_ok (c ∷ cs) h = and_both (cone_ok c) (all_cones_ok cs) (h 0 (omega arith)) (all_ok cs (λ i l. h (suc i) (omega arith)))

pub plan-taken : (cs : List Cone) → AcceptedPlan cs → plan_ok cs ≡ true
unfolding plan_ok
plan-taken cs p =
    and_both _ (all_cones_ok cs) (and_both _ _ (le-leb 1 (length cs) p.some) (le-leb (length cs) 1024 p.few)) (all_ok cs p.each)
