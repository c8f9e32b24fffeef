-- One trial more of a search: what it tested is the definition's test, so its count fits, the measure falls, and the loop goes on or ends as
-- the definition does. Assumes nothing.
use mathlib.Core.Path.{◌≡◌, sym, ap, ◌∙◌, subst}
use mathlib.Core.Bool.{true, false}
use mathlib.Core.List.{List}
use Prim.Native.Nat.{ℕ, ◌+◌, ◌-◌, ◌*◌, ◌^◌, ◌<◌, ◌≤◌}
use native.Mathlib.Omega.{arith}
use lib.Ieee.{Float}
use Rattle.double.specs.Operators.{◌⊗◌, ◌≺◌}
use Rattle.double.specs.Numbers.{#0}
use Rattle.cone.specs.declared.Settings.{Settings}
use Rattle.search.specs.declared.trials.Tested.{Tested}
use Rattle.search.specs.trials.Trials.{bound, Usable}
use Rattle.search.specs.trials.Search.{outcome}
use Rattle.search.specs.trials.Costed.{Costed, costed_of}
use Rattle.search.specs.trials.Asked.{Trials, Costs, tested_at, most_tests, searched_with}
use Rattle.search.proofs.trials.Trials.{bound_small}
use Rattle.search.proofs.trials.Costed.{Stands, stands_next, costed_hit, costed_miss, under-most}

module _ (t : Trials) (how : Settings) (ok : Usable how) (n : ℕ) (α : Float) (s : Stands (searched_with t how) n α)
    (r : Tested) (e : r ≡ tested_at t α) where
  abbrev C : Costed
  C = searched_with t how

  count-is : r.count ≡ t.cost (t.point_at α)
  count-is = ap (λ (r : Tested). r.count) e

  all-is : r.all ≡ t.test (t.point_at α)
  all-is = ap (λ (r : Tested). r.all) e

  module _ (c : Costs t) where
    under : n + r.count ≤ most_tests * bound how
    under = subst (λ (k : ℕ). n + k ≤ most_tests * bound how) (sym count-is) (under-most C most_tests c.few n α ok s)

    pub count-fits : n + r.count < 2 ^ 32
    count-fits = small (n + r.count) (bound how) under (bound_small how)
      where
        small : (m b : ℕ) → m ≤ 2048 * b → b ≤ 141312 → m < 2 ^ 32
        small m b l h = omega arith

    pub falls : most_tests * bound how - (n + r.count) < most_tests * bound how - n
    falls = less n r.count (most_tests * bound how) (subst (λ (k : ℕ). 1 ≤ k) (sym count-is) (c.some (t.point_at α))) under
      where
        less : (n k m : ℕ) → 1 ≤ k → n + k ≤ m → m - (n + k) < m - n
        less n k m g l = omega arith

  pub goes_on : r.all ≡ false → (α ⊗ how.step ≺ how.smallest) ≡ false → Stands C (n + r.count) (α ⊗ how.step)
  goes_on f c =
      subst (λ (k : ℕ). Stands C (n + k) (α ⊗ how.step)) (sym count-is) (stands_next C n α s (sym all-is ∙ f) c)

  told : (β : Float) {p p' : List Float} → p ≡ p' → outcome β (n + r.count) p ≡ outcome β (n + t.cost (t.point_at α)) p'
  told β {p} {p'} h =
      ap (λ (k : ℕ). outcome β (n + k) p) count-is ∙ ap (λ (l : List Float). outcome β (n + t.cost (t.point_at α)) l) h

  pub passed : {p : List Float} → r.all ≡ true → p ≡ t.point_at α → outcome α (n + r.count) p ≡ costed_of C
  passed f h = told α h ∙ sym (costed_hit C n α s ok (sym all-is ∙ f))

  pub none_passed : {p : List Float} → r.all ≡ false → (α ⊗ how.step ≺ how.smallest) ≡ true → p ≡ t.q
      → outcome #0 (n + r.count) p ≡ costed_of C
  none_passed f c h = told #0 h ∙ sym (costed_miss C n α s ok (sym all-is ∙ f) c)
