-- With one cone in the list the common step is `backtrack_search` of that cone, for all arguments, refused ones too: their rows are one,
-- and where they let a call through the searches are. Assumes nothing.
use mathlib.Core.Path.{◌≡◌, refl, sym, ap, ◌∙◌}
use mathlib.Core.Bool.{Bool, and-true}
use mathlib.Core.List.{List, [], ◌∷◌}
use Prim.Native.Nat.{ℕ, zero, suc}
use native.Mathlib.Omega.{arith}
use lib.Ieee.{Float}
use lib.ListN.{length}
use Rattle.cone.specs.declared.Cone.{Cone}
use Rattle.cone.specs.declared.Settings.{Settings}
use Rattle.cone.specs.declared.Found.{Found}
use Rattle.cone.specs.Codes.{numel_of}
use Rattle.judges.specs.Judges.{cone_ok}
use Rattle.cone.specs.table.Table.{settle}
use Rattle.judges.specs.Refusals.{Lent}
use Rattle.cone.proofs.table.Settled.{no_fault}
use Rattle.judges.proofs.Lengths.{same_3}
use Rattle.search.specs.trials.Search.{Outcome, search_of}
use Rattle.search.specs.trials.Costed.{costed_of}
use Rattle.search.specs.Problems.{problem_of}
use Rattle.call_search.specs.single.Rows.{search_faults, search_rows}
use Rattle.call_search.specs.single.Entries.{found, refuse_found, backtrack_search_of}
use Rattle.search.specs.plan.Plans.{total_of, all_cones_ok, plan_ok, plan_of}
use Rattle.search.proofs.plan.OneCone.{one-cone}
use Rattle.call_search.specs.plans.Rows.{plan_faults, plan_rows}
use Rattle.call_search.specs.plans.Entries.{common_step_of}
use Rattle.call_search.specs.plans.CommonStep.{OneConeAlone}

pub ok_one : (c : Cone) → plan_ok (c ∷ []) ≡ cone_ok c
unfolding plan_ok all_cones_ok
ok_one c = and-true (cone_ok c)

pub total-one : (c : Cone) → total_of (c ∷ []) ≡ numel_of c
unfolding total_of
total-one c = omega arith

rows-one : (c : Cone) (dq q : List Float) (point : ℕ) (s : Settings) → plan_rows (c ∷ []) dq q point s ≡ search_rows c dq q point s
unfolding plan_faults search_faults
rows-one c dq q point s = simp (ok_one c, total-one c)

-- where the rows let through, the outcomes are one
settled_same : (k : ℕ) (a b : Outcome) (f : ℕ → Lent Found) → (k ≡ 0 → a ≡ b) → settle k (found a) f ≡ settle k (found b) f
unfolding settle
settled_same zero a b f h = ap found (h refl)
settled_same (suc k) a b f h = refl

let_through : (c : Cone) (primal : Bool) (dq q point : List Float) (s : Settings) → search_rows c dq q (length point) s ≡ 0
    → costed_of (plan_of (c ∷ []) primal dq q s) ≡ search_of (problem_of c primal dq q s)
unfolding search_faults
let_through c primal dq q point s e =
    let l = same_3 (numel_of c) (length dq) (length q) (length point) (no_fault _ e).length in
    one-cone c primal dq q s l.1 (l.0 ∙ sym l.1)

pub one_cone_alone : OneConeAlone
unfolding common_step_of backtrack_search_of
one_cone_alone c primal dq q point s =
    ap (λ (k : ℕ). settle k (found (costed_of (plan_of (c ∷ []) primal dq q s))) (refuse_found point)) (rows-one c dq q (length point) s)
    ∙ settled_same (search_rows c dq q (length point) s) _ _ (refuse_found point) (let_through c primal dq q point s)
