-- What each search entry answers and leaves, for all arguments. Definitions only.
use Rattle.std.specs.Prelude.{ℕ, Bool, true, false, List, Float, length}
use Rattle.double.specs.Numbers.{#0}
use Rattle.cone.specs.declared.Cone.{Cone}
use Rattle.cone.specs.declared.Settings.{Settings}
use Rattle.cone.specs.declared.Found.{Found}
use Rattle.cone.specs.declared.Steps.{Steps}
use Rattle.cone.specs.table.Table.{settle}
use Rattle.judges.specs.Refusals.{Lent, LentTwo}
use Rattle.search.specs.trials.Search.{Outcome, search_of}
use Rattle.search.specs.Problems.{problem_of}
use Rattle.call_search.specs.single.Rows.{search_rows, step_rows}

-- ---- 003 backtrack_search

abbrev pub found : Outcome → Lent Found
found o = record { answer = record { code = 0; count = o.count; step = o.step }; slice = o.point }

-- 01: "A refusal returns zeros for all numbers"
abbrev pub refuse_found : List Float → ℕ → Lent Found
refuse_found point k = record { answer = record { code = k; count = 0; step = #0 }; slice = point }

unfoldable pub backtrack_search_of : Cone → Bool → List Float → List Float → List Float → Settings → Lent Found
backtrack_search_of c primal dq q point s =
    settle (search_rows c dq q (length point) s)
    (found (search_of (problem_of c primal dq q s)))
    (refuse_found point)

-- ---- 000, 001, 002 step_length

abbrev pub both_found : Outcome → Outcome → LentTwo Steps
both_found dual primal = record {
  answer = record { code = 0; dualcount = dual.count; primalcount = primal.count; dualstep = dual.step; primalstep = primal.step };
  first = dual.point;
  second = primal.point;
}

abbrev pub refuse_steps : List Float → List Float → ℕ → LentTwo Steps
refuse_steps dual_point primal_point k = record {
  answer = record { code = k; dualcount = 0; primalcount = 0; dualstep = #0; primalstep = #0 };
  first = dual_point;
  second = primal_point;
}

unfoldable pub step_length_of : Cone → List Float → List Float → List Float → List Float → List Float → List Float → Settings → LentTwo Steps
step_length_of c dz ds z s dual_point primal_point settings =
    settle (step_rows c dz ds z s (length dual_point) (length primal_point) settings)
    (both_found (search_of (problem_of c false dz z settings)) (search_of (problem_of c true ds s settings)))
    (refuse_steps dual_point primal_point)
