-- 02, Order 9: "Every cone that rule 2 takes, rule 1 takes as well, with equal answers but for the rule number carried; prove that once
-- over both tolerances." Statements, of the definitions that the calls' contracts name; proofs/rules/Tolerances, proofs/rules/Answers,
-- proofs/rules/PlanAnswers and proofs/rules/AtTolerance have the proofs.
use Rattle.std.specs.Prelude.{ℕ, ◌<◌, ◌≡◌, Bool, true, false, List, ◌∷◌, map, Float, length, replicate}
use Rattle.double.specs.Operators.{◌≼◌, ◌⊕◌, ◌⊖◌}
use Rattle.double.specs.Numbers.{pow2, #0, #½}
use Rattle.cone.specs.declared.Cone.{Cone}
use Rattle.cone.specs.declared.Settings.{Settings}
use Rattle.judges.specs.Judges.{rule1, rule2, rule_ok, tolerance_of, cone_ok_within, cone_ok}
use Rattle.search.specs.plan.Plans.{plan_ok}
use Rattle.search.specs.plan.EachCone.{cone_at}
use Rattle.call_search.specs.plans.Entries.{common_step_of, plan_step_of}
use Rattle.promises.specs.rules.Entries.{Entry, call, code_of, under, carrying}

-- ---- the cones

pub record Wider : Type 0 where
  -- "once over both tolerances": what the smaller takes, the larger takes
  pub within : (a b : Float) → (a ≼ b) ≡ true → (c : Cone) → cone_ok_within a c ≡ true → cone_ok_within b c ≡ true
  -- 2^-50 is the smaller
  pub tolerances : (tolerance_of rule2 ≼ tolerance_of rule1) ≡ true
  -- "Every cone that rule 2 takes, rule 1 takes as well"
  pub takes : (c : Cone) → cone_ok (under rule2 c) ≡ true → cone_ok (under rule1 c) ≡ true

-- ---- the answers

-- The shape that all entries share: a cone's rule is looked at in row 1 alone. Of two cones that differ in the rule and are both taken,
-- each call has one answer, but for the rule carried.
abbrev pub InRowOne : Entry → Type 0
InRowOne e = (c : Cone) (rule : ℕ) → cone_ok c ≡ true → cone_ok (under rule c) ≡ true → call e (under rule c) ≡ carrying rule (call e c)

pub record Answers : Type 0 where
  pub in_row_one : (e : Entry) → InRowOne e
  -- "with equal answers but for the rule number carried", of every entry, whatever its other arguments, refused ones too
  pub equal : (e : Entry) (c : Cone) → cone_ok (under rule2 c) ≡ true → call e (under rule2 c) ≡ carrying rule2 (call e (under rule1 c))
  -- "another rule number gives 1", whatever the kind and the other arguments
  pub another : (e : Entry) (c : Cone) → rule_ok c.rule ≡ false → code_of (call e c) ≡ 1

-- ---- the same of Order 10's common step, which takes a list of cones

-- the list with all its cones under a rule
abbrev pub all_under : ℕ → List Cone → List Cone
all_under rule cs = map (under rule) cs

-- one answer and one point for both lists, whatever the call's other arguments, refused ones too
abbrev pub OneStep : List Cone → List Cone → Type 0
OneStep cs ds =
    (primal : Bool) (dq q point : List Float) (s : Settings) → common_step_of cs primal dq q point s ≡ common_step_of ds primal dq q point s

pub record PlanAnswers : Type 0 where
  -- a list that is taken, whichever rule each cone has, is taken with all of them under rule 1
  pub takes : (cs : List Cone) → plan_ok cs ≡ true → plan_ok (all_under rule1 cs) ≡ true
  -- the rules are looked at in row 1 alone: two lists that differ in nothing else, and are both taken
  pub in_row_one : (cs ds : List Cone) → all_under rule1 cs ≡ all_under rule1 ds → plan_ok cs ≡ true → plan_ok ds ≡ true → OneStep cs ds
  -- "with equal answers"; no rule is carried here
  pub equal : (cs : List Cone) → plan_ok (all_under rule2 cs) ≡ true → OneStep (all_under rule2 cs) (all_under rule1 cs)
  -- "another rule number gives 1", wherever it stands in the list
  pub another : (cs : List Cone) (i : ℕ) → i < length cs → rule_ok (cone_at cs i).rule ≡ false
      → (primal : Bool) (dq q point : List Float) (s : Settings) → (common_step_of cs primal dq q point s).answer.code ≡ 1

-- ---- and of one step for both sides of a plan

abbrev pub OneStepOfBoth : List Cone → List Cone → Type 0
OneStepOfBoth cs other =
    (dz ds z s dual_point primal_point : List Float) (settings : Settings)
    → plan_step_of cs dz ds z s dual_point primal_point settings ≡ plan_step_of other dz ds z s dual_point primal_point settings

pub record SidesAnswers : Type 0 where
  pub in_row_one : (cs other : List Cone) → all_under rule1 cs ≡ all_under rule1 other → plan_ok cs ≡ true → plan_ok other ≡ true
      → OneStepOfBoth cs other
  pub equal : (cs : List Cone) → plan_ok (all_under rule2 cs) ≡ true → OneStepOfBoth (all_under rule2 cs) (all_under rule1 cs)
  pub another : (cs : List Cone) (i : ℕ) → i < length cs → rule_ok (cone_at cs i).rule ≡ false
      → (dz ds z s dual_point primal_point : List Float) (settings : Settings)
      → (plan_step_of cs dz ds z s dual_point primal_point settings).answer.code ≡ 1

-- ---- at the tolerance

-- generalized, with the exponents ½ and α and one tail place
abbrev pub half_and : Float → ℕ → Cone
half_and α rule = record { kind = 3; dim1 = 2; dim2 = 1; rule = rule; exps = #½ ∷ α ∷ replicate 30 #0 }

-- 01: "its computed exponent sum more than" the tolerance from 1 is bad: exactly the tolerance is taken, and the next sum is not
pub record Border (rule : ℕ) (tolerance : Float) : Type 0 where
  pub above : cone_ok (half_and (#½ ⊕ tolerance) rule) ≡ true
  pub below : cone_ok (half_and (#½ ⊖ tolerance) rule) ≡ true
  pub next-above : cone_ok (half_and (#½ ⊕ tolerance ⊕ pow2 52) rule) ≡ false
  pub next-below : cone_ok (half_and (#½ ⊖ tolerance ⊖ pow2 53) rule) ≡ false

pub record AtTolerance : Type 0 where
  pub of_rule_1 : Border rule1 (pow2 40)
  pub of_rule_2 : Border rule2 (pow2 50)
  -- the sums that rule 2 refuses there, rule 1 takes
  pub between_above : cone_ok (half_and (#½ ⊕ pow2 50 ⊕ pow2 52) rule1) ≡ true
  pub between_below : cone_ok (half_and (#½ ⊖ pow2 50 ⊖ pow2 53) rule1) ≡ true
