-- 02, Order 10, "in the same sequence as for one cone": a plan of one cone is searched as `backtrack_search` searches that cone. Assumes
-- nothing.
use mathlib.Core.Path.{◌≡◌, refl, ap, ◌∙◌}
use mathlib.Core.Bool.{Bool, true, false, cond}
use mathlib.Core.List.{List, [], ◌∷◌}
use Prim.Native.Nat.{suc}
use native.Mathlib.Omega.{arith}
use lib.ListN.{length, take}
use lib.Seq.{take_all}
use lib.Ieee.{Float}
use Rattle.cone.specs.declared.Cone.{Cone}
use Rattle.cone.specs.declared.Settings.{Settings}
use Rattle.cone.specs.Codes.{numel_of}
use Rattle.search.specs.trials.Search.{search_of}
use Rattle.search.specs.trials.Costed.{costed_of}
use Rattle.search.proofs.trials.SameTests.{same_search}
use Rattle.search.proofs.trials.Costed.{costed_one}
use Rattle.search.specs.Points.{trial_point}
use Rattle.search.specs.Problems.{problem_of}
use Rattle.search.proofs.Points.{length-point}
use Rattle.search.specs.plan.Plans.{cone_passes, all_pass, tests_of, plan_of}

tests_one : (c : Cone) (primal : Bool) (p : List Float) → tests_of (c ∷ []) primal p ≡ 1
unfolding tests_of
tests_one c primal p = go (cone_passes c primal (take (numel_of c) p))
  where
    go : (b : Bool) → suc (cond b 0 0) ≡ 1
    go true = refl
    go false = refl

passes-one : (c : Cone) (primal : Bool) (p : List Float) → length p ≡ numel_of c → all_pass (c ∷ []) primal p ≡ cone_passes c primal p
unfolding all_pass
passes-one c primal p h =
    ap (λ (x : List Float). cond (cone_passes c primal x) true false) (take_all (numel_of c) p (omega arith)) ∙ go (cone_passes c primal p)
  where
    go : (b : Bool) → cond b true false ≡ b
    go true = refl
    go false = refl

pub one-cone : (c : Cone) (primal : Bool) (dq q : List Float) (how : Settings) → length q ≡ numel_of c → length dq ≡ length q
    → costed_of (plan_of (c ∷ []) primal dq q how) ≡ search_of (problem_of c primal dq q how)
one-cone c primal dq q how h l =
    costed_one (plan_of (c ∷ []) primal dq q how) (tests_one c primal)
    ∙ same_search (all_pass (c ∷ []) primal) (cone_passes c primal) (λ (α : Float). trial_point q dq α) q how
    (λ α. passes-one c primal (trial_point q dq α) (length-point q dq α l ∙ h))
