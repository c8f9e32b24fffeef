-- Two tests that agree on the points of all trials give one search. Assumes nothing.
use mathlib.Core.Path.{◌≡◌, refl, ap, ◌∙◌}
use mathlib.Core.Bool.{Bool, true, false}
use mathlib.Core.List.{List}
use Prim.Native.Nat.{ℕ, zero, suc}
use lib.Ieee.{Float}
use Rattle.double.specs.Operators.{◌⊗◌}
use Rattle.cone.specs.declared.Settings.{Settings}
use Rattle.search.specs.trials.Trials.{bound}
use Rattle.search.specs.trials.Search.{Problem, cut_after, scan, search_of}

module _ (t u : List Float → Bool) (point : Float → List Float) (q : List Float) (how : Settings)
    (same : (α : Float) → t (point α) ≡ u (point α)) where
  abbrev tested-by : (List Float → Bool) → Problem
  tested-by x = record { test = x; point_at = point; q = q; how = how }

  same_scan : (f : ℕ) (b c : Bool) (α : Float) (n : ℕ) → scan (tested-by t) f b c α n ≡ scan (tested-by u) f b c α n
  unfolding scan
  same_scan zero true c α n = refl
  same_scan zero false c α n = refl
  same_scan (suc f) true c α n = refl
  same_scan (suc f) false true α n = refl
  same_scan (suc f) false false α n =
      let β = α ⊗ how.step in
      same_scan f (t (point β)) (cut_after (tested-by t) β) β (suc n)
      ∙ ap (λ (b : Bool). scan (tested-by u) f b (cut_after (tested-by u) β) β (suc n)) (same β)

  pub same_search : search_of (tested-by t) ≡ search_of (tested-by u)
  unfolding search_of
  same_search =
      let α = how.start in
      same_scan (bound how) (t (point α)) (cut_after (tested-by t) α) α 0
      ∙ ap (λ (b : Bool). scan (tested-by u) (bound how) b (cut_after (tested-by u) α) α 0) (same α)
