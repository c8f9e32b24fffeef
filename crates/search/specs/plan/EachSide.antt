-- What the test of both sides says of each cone, and the one step beside the steps of the two sides. The statements only;
-- proofs/plan/EachSide shows them.
use Rattle.std.specs.Prelude.{ℕ, suc, ◌+◌, ◌*◌, ◌<◌, ◌≡◌, ◌⊎◌, true, false, List, T, length, Float}
use Rattle.double.specs.Operators.{◌≺◌}
use Rattle.double.specs.Numbers.{#0}
use Rattle.cone.specs.declared.Cone.{Cone}
use Rattle.cone.specs.declared.Settings.{Settings}
use Rattle.search.specs.trials.Trials.{Usable}
use Rattle.search.specs.trials.Costed.{costed_of}
use Rattle.search.specs.plan.Plans.{total_of, all_pass, plan_of}
use Rattle.search.specs.plan.EachCone.{part_passes, FirstFailing}
use Rattle.search.specs.plan.Sides.{both_pass, both_tests, sides_of}

-- cone i passes on its part of the dual point and on its part of the primal one
abbrev pub PassesBoth : List Cone → List Float → List Float → ℕ → Type 0
PassesBoth cs dual primal i = (part_passes cs false dual i ≡ true) × (part_passes cs true primal i ≡ true)

pub record BothInOrder (cs : List Cone) (dual primal : List Float) : Type 0 where
  -- 01: "at which every cone passes on both sides"
  pub both_if_each : ((i : ℕ) → i < length cs → PassesBoth cs dual primal i) → both_pass cs dual primal ≡ true
  pub each_if_both : both_pass cs dual primal ≡ true → (i : ℕ) → i < length cs → PassesBoth cs dual primal i
  -- 01: "in list order on the dual side, then in list order on the primal side, and it ends at the first test that fails": the position
  -- of that test, from 1, is the number of tests
  pub tests_of-both : both_pass cs dual primal ≡ true → both_tests cs dual primal ≡ 2 * length cs
  pub tests_to_dual : (i : ℕ) → FirstFailing cs false dual i → both_tests cs dual primal ≡ suc i
  pub tests_to_primal : (i : ℕ) → all_pass cs false dual ≡ true → FirstFailing cs true primal i
      → both_tests cs dual primal ≡ length cs + suc i

-- ---- the one step beside the two that the sides have by themselves

abbrev pub NotAbove : Float → Float → Type 0
NotAbove α β = (α ≡ β) ⊎ T (α ≺ β)

-- A step of both that is not zero is above neither; and where the two are one number, it is that number. It need not be the smaller of
-- them: search/specs/trials/TwoTests.
pub record Beside (both dual primal : Float) : Type 0 where
  pub above_neither : (both ≡ #0 → ⊥) → NotAbove both dual × NotAbove both primal
  pub same_if_equal : dual ≡ primal → both ≡ dual

abbrev pub BesideTwo : Type 0
BesideTwo =
    (cs : List Cone) (dz ds z s : List Float) (how : Settings) → Usable how → length dz ≡ length z → total_of cs ≡ length z
    → Beside (costed_of (sides_of cs dz ds z s how)).step (costed_of (plan_of cs false dz z how)).step
    (costed_of (plan_of cs true ds s how)).step
