-- 02, Order 9, of the calls of include/spindle.h, by value and over a record in place, whatever their callers pass: of every outcome that a
-- contract allows. Definitions and statements; proofs/rules/Calls has the proofs.
use Rattle.std.specs.Prelude.{ℕ, ◌<◌, ◌≡◌, Bool, true, false, List, Float, length}
use Rattle.cone.specs.declared.Cone.{Cone}
use Rattle.cone.specs.declared.Settings.{Settings}
use Rattle.cone.specs.declared.Scaling.{Scaling}
use Rattle.judges.specs.Judges.{rule1, rule2, rule_ok, cone_ok}
use Rattle.search.specs.plan.Plans.{plan_ok}
use Rattle.search.specs.plan.EachCone.{cone_at}
use Rattle.promises.specs.rules.Entries.{Entry, Answered, with_cone, call, under, carrying}
use Rattle.promises.specs.rules.Entries.{fresh, is_primal_feasible, is_dual_feasible, barrier_dual, dual_grad_h, unit_initialization}
use Rattle.promises.specs.rules.Entries.{rectify_equilibration, affine_ds, ds_from_dz_offset, backtrack_search, step_length, update_scaling}
use Rattle.promises.specs.rules.Entries.{gradient_primal, barrier_primal, compute_barrier, get_hs, mul_hs, higher_correction}
use Rattle.promises.specs.rules.Entries.{combined_ds_shift}
use Rattle.promises.specs.rules.Rules.{all_under}
use Rattle.promises.specs.demand_one.Calls.{Call, Outcome, number_in, entry, answered, common_step, plan_step}
use Rattle.promises.specs.allowed.Allowed.{Allowed}

-- an entry as a call with the cone c passes it: a record holds its cone
unfoldable pub passed : Cone → Entry → Entry
passed c fresh = fresh
passed c (is_primal_feasible s) = is_primal_feasible s
passed c (is_dual_feasible z) = is_dual_feasible z
passed c (barrier_dual z) = barrier_dual z
passed c (dual_grad_h z) = dual_grad_h z
passed c (unit_initialization z s) = unit_initialization z s
passed c (rectify_equilibration δ e) = rectify_equilibration δ e
passed c (affine_ds ds s) = affine_ds ds s
passed c (ds_from_dz_offset out ds z) = ds_from_dz_offset out ds z
passed c (backtrack_search primal dq q point how) = backtrack_search primal dq q point how
passed c (step_length dz ds z s dual_point primal_point how) = step_length dz ds z s dual_point primal_point how
passed c (update_scaling r s z μ strategy) = update_scaling (with_cone c r) s z μ strategy
passed c (gradient_primal r g s) = gradient_primal (with_cone c r) g s
passed c (barrier_primal r s) = barrier_primal (with_cone c r) s
passed c (compute_barrier r z s dz ds step) = compute_barrier (with_cone c r) z s dz ds step
passed c (get_hs r serial block) = get_hs (with_cone c r) serial block
passed c (mul_hs r serial y x) = mul_hs (with_cone c r) serial y x
passed c (higher_correction r serial η ds v) = higher_correction (with_cone c r) serial η ds v
passed c (combined_ds_shift r serial out stepz steps σμ) = combined_ds_shift (with_cone c r) serial out stepz steps σμ

-- a is what that call may answer and leave
abbrev pub With : Cone → Entry → Answered → Type 0
With c e a = Allowed (entry (passed c e) c) (answered a)

-- "another rule number gives 1"
abbrev pub GivesOne : Call → Type 0
GivesOne a = (o : Outcome) → Allowed a o → number_in o ≡ 1

-- two calls that have one outcome
abbrev pub Alike : Call → Call → Type 0
Alike a b = (o p : Outcome) → Allowed a o → Allowed b p → o ≡ p

pub record CallsUnderRules : Type 0 where
  -- the rule is looked at in row 1 alone: two cones that differ in it, and are both taken, have one answer, but for the rule carried
  pub in_row_one : (e : Entry) (c : Cone) (rule : ℕ) (a b : Answered) → cone_ok c ≡ true → cone_ok (under rule c) ≡ true
      → With c e a → With (under rule c) e b → b ≡ carrying rule a
  -- "Every cone that rule 2 takes, rule 1 takes as well, with equal answers but for the rule number carried"
  pub equal : (e : Entry) (c : Cone) (two one : Answered) → cone_ok (under rule2 c) ≡ true
      → With (under rule2 c) e two → With (under rule1 c) e one → two ≡ carrying rule2 one
  pub another : (e : Entry) (c : Cone) → rule_ok c.rule ≡ false → GivesOne (entry (passed c e) c)
  -- the same of both calls over a plan; no rule is carried there
  pub common_equal : (cs : List Cone) (primal : Bool) (dq q point : List Float) (s : Settings) → plan_ok (all_under rule2 cs) ≡ true
      → Alike (common_step (all_under rule2 cs) primal dq q point s) (common_step (all_under rule1 cs) primal dq q point s)
  pub common_another : (cs : List Cone) (i : ℕ) → i < length cs → rule_ok (cone_at cs i).rule ≡ false
      → (primal : Bool) (dq q point : List Float) (s : Settings) → GivesOne (common_step cs primal dq q point s)
  pub plan_equal : (cs : List Cone) (dz ds z s dual_point primal_point : List Float) (how : Settings) → plan_ok (all_under rule2 cs) ≡ true
      → Alike (plan_step (all_under rule2 cs) dz ds z s dual_point primal_point how)
      (plan_step (all_under rule1 cs) dz ds z s dual_point primal_point how)
  pub plan_another : (cs : List Cone) (i : ℕ) → i < length cs → rule_ok (cone_at cs i).rule ≡ false
      → (dz ds z s dual_point primal_point : List Float) (how : Settings) → GivesOne (plan_step cs dz ds z s dual_point primal_point how)

-- ---- none of these is said of nothing: a call over a record, passed with any cone, has such an outcome

abbrev pub Occurs : Entry → Type 0
Occurs e = (c : Cone) → With c e (call e c)

pub record RecordCallsOccur : Type 0 where
  pub update : (r : Scaling) (s z : List Float) (μ : Float) (strategy : ℕ) → Occurs (update_scaling r s z μ strategy)
  pub gradient : (r : Scaling) (g s : List Float) → Occurs (gradient_primal r g s)
  pub primal : (r : Scaling) (s : List Float) → Occurs (barrier_primal r s)
  pub barrier : (r : Scaling) (z s dz ds : List Float) (step : Float) → Occurs (compute_barrier r z s dz ds step)
  pub block : (r : Scaling) (serial : ℕ) (b : List Float) → Occurs (get_hs r serial b)
  pub product : (r : Scaling) (serial : ℕ) (y x : List Float) → Occurs (mul_hs r serial y x)
  pub correction : (r : Scaling) (serial : ℕ) (η ds v : List Float) → Occurs (higher_correction r serial η ds v)
  pub shift : (r : Scaling) (serial : ℕ) (out stepz steps : List Float) (σμ : Float) → Occurs (combined_ds_shift r serial out stepz steps σμ)
