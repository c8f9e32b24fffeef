-- Both sides of a plan tested at a trial, side by side. Assumes nothing.
use mathlib.Core.Path.{◌≡◌, refl, sym, ap, ◌∙◌}
use mathlib.Core.Bool.{Bool, true, false, cond}
use mathlib.Core.List.{List, ◌++◌}
use Prim.Native.Nat.{ℕ, ◌+◌, ◌*◌, ◌≤◌}
use native.Mathlib.Omega.{arith}
use lib.ListN.{length, take, drop}
use lib.Seq.{take-append_seam, drop-append_seam}
use lib.Ieee.{Float}
use Rattle.cone.specs.declared.Cone.{Cone}
use Rattle.cone.specs.declared.Settings.{Settings}
use Rattle.search.specs.trials.Search.{passes_at}
use Rattle.search.specs.trials.Asked.{tested_at}
use Rattle.search.specs.Points.{trial_point}
use Rattle.search.proofs.Points.{length-point}
use Rattle.search.specs.declared.trials.Tested.{Tested}
use Rattle.search.specs.plan.Plans.{total_of, all_pass, tests_of, tested_of}
use Rattle.search.specs.plan.Sides.{both_pass, both_tests, both_tested_of}
use Rattle.search.specs.plan.Sides.{dual_side, primal_side, sides_problem, sides_trials}
use Rattle.search.proofs.plan.Plans.{tests_most, tests_some}

-- ---- the tests: the dual side's, and where all of them passed the primal side's

module _ (cs : List Cone) (dual primal : List Float) where
  pub dual_fails : all_pass cs false dual ≡ false → tested_of cs false dual ≡ both_tested_of cs dual primal
  unfolding both_pass both_tests
  dual_fails e = rw e (ap (λ (n : ℕ). record { all = false; count = n }) (no_more (tests_of cs false dual)))
    where
      no_more : (n : ℕ) → n ≡ n + 0
      no_more n = omega arith

  pub dual-passes : all_pass cs false dual ≡ true
      → record { all = all_pass cs true primal; count = tests_of cs false dual + tests_of cs true primal } ≡ both_tested_of cs dual primal
  unfolding both_pass both_tests
  dual-passes e = rw e

  pub dual-passed : both_pass cs dual primal ≡ true → all_pass cs false dual ≡ true
  unfolding both_pass
  dual-passed = go (all_pass cs false dual)
    where
      go : (b : Bool) → cond b (all_pass cs true primal) false ≡ true → b ≡ true
      go true e = refl
      go false e = e

  pub primal_passed : both_pass cs dual primal ≡ true → all_pass cs true primal ≡ true
  primal_passed e = ap (λ (t : Tested). t.all) (dual-passes (dual-passed e)) ∙ e

  pub both_most : both_tests cs dual primal ≤ 2 * length cs
  unfolding both_tests
  both_most = go (all_pass cs false dual)
    where
      go : (b : Bool) → tests_of cs false dual + cond b (tests_of cs true primal) 0 ≤ 2 * length cs
      go true = omega (arith, tests_most cs false dual, tests_most cs true primal)
      go false = omega (arith, tests_most cs false dual)

  pub both_some : 1 ≤ length cs → 1 ≤ both_tests cs dual primal
  unfolding both_tests
  both_some h = omega (arith, tests_some cs false dual h)

-- ---- the search's one point, side by side

module _ (cs : List Cone) (dual primal : List Float) (e : total_of cs ≡ length dual) where
  pub dual-of : dual_side cs (dual ++ primal) ≡ dual
  dual-of = ap (λ (n : ℕ). take n (dual ++ primal)) e ∙ take-append_seam dual primal

  pub primal_of : primal_side cs (dual ++ primal) ≡ primal
  primal_of = ap (λ (n : ℕ). drop n (dual ++ primal)) e ∙ drop-append_seam dual primal

-- ---- a trial: the dual point is tested, and the primal one where every cone passes on that

module _ (cs : List Cone) (dz ds z s : List Float) (α : Float) (same : length dz ≡ length z) (long : total_of cs ≡ length z) where
  abbrev dual-at : List Float
  dual-at = trial_point z dz α

  abbrev primal_at : List Float
  primal_at = trial_point s ds α

  dual_long : total_of cs ≡ length dual-at
  dual_long = long ∙ sym (length-point z dz α same)

  both-at : both_tested_of cs dual-at primal_at ≡ tested_at (sides_trials cs dz ds z s) α
  both-at = rw (dual-of cs dual-at primal_at dual_long, primal_of cs dual-at primal_at dual_long)

  pub trial_ends : {d : List Float} (t : Tested) → d ≡ dual-at → t ≡ tested_of cs false d → t.all ≡ false
      → t ≡ tested_at (sides_trials cs dz ds z s) α
  trial_ends t f e h =
      let is : t ≡ tested_of cs false dual-at = e ∙ ap (tested_of cs false) f in
      is ∙ dual_fails cs dual-at primal_at (sym (ap (λ (u : Tested). u.all) is) ∙ h) ∙ both-at

  pub trial-goes_on : {d p : List Float} (t u : Tested) → d ≡ dual-at → p ≡ primal_at → t ≡ tested_of cs false d → u ≡ tested_of cs true p
      → t.all ≡ true → record { all = u.all; count = t.count + u.count } ≡ tested_at (sides_trials cs dz ds z s) α
  trial-goes_on t u f g e e' h =
      let first : t ≡ tested_of cs false dual-at = e ∙ ap (tested_of cs false) f in
      let second : u ≡ tested_of cs true primal_at = e' ∙ ap (tested_of cs true) g in
      together t u _ _ first second
      ∙ dual-passes cs dual-at primal_at (sym (ap (λ (w : Tested). w.all) first) ∙ h)
      ∙ both-at
    where
      together : (t u t' u' : Tested) → t ≡ t' → u ≡ u'
          → ◌≡◌ {A = Tested} (record { all = u.all; count = t.count + u.count }) (record { all = u'.all; count = t'.count + u'.count })
      together t u t' u' e f = rw (e, f)

pub passes_at_lem : (cs : List Cone) (dz ds z s : List Float) (how : Settings) (α : Float) → length dz ≡ length z → total_of cs ≡ length z
    → passes_at (sides_problem cs dz ds z s how) α ≡ both_pass cs (trial_point z dz α) (trial_point s ds α)
passes_at_lem cs dz ds z s how α same long = sym (ap (λ (t : Tested). t.all) (both-at cs dz ds z s α same long))
