-- Demand 3 of the entries themselves: what a call that is not refused hands back. Definitions and the statements only;
-- proofs/single/Demand3 shows them, and of the functions' contracts too.
use Rattle.std.specs.Prelude.{◌≡◌, Bool, true, false, not, List, T, Float}
use Rattle.std.specs.Float.{binary64}
use Rattle.std.specs.Float.Ieee.{fits, is_nan}
use Rattle.cone.specs.declared.Cone.{Cone}
use Rattle.cone.specs.declared.Settings.{Settings}
use Rattle.cone.specs.declared.Found.{Found}
use Rattle.cone.specs.declared.Steps.{Steps}
use Rattle.judges.specs.Refusals.{LentTwo}
use Rattle.search.specs.trials.Search.{Problem, Outcome, outcome}
use Rattle.search.specs.trials.FirstPassing.{FirstPassing}
use Rattle.search.specs.Points.{all_numbers}
use Rattle.search.specs.Problems.{problem_of}
use Rattle.call_search.specs.single.Entries.{backtrack_search_of, step_length_of}

-- what demand 3 asks of a search's outcome; and none of its numbers is a NaN, so that its bits are determined
pub record AsDemanded (P : Problem) (o : Outcome) : Type 0 where
  pub first_passing : FirstPassing P o
  pub step_number : not (is_nan o.step) ≡ true
  pub point-numbers : all_numbers o.point ≡ true

-- `Float` holds the values of every format; the settings of a call are doubles
pub record Doubles (s : Settings) : Type 0 where
  pub start : T (fits binary64 s.start)
  pub smallest : T (fits binary64 s.smallest)

-- ---- 003 backtrack_search

abbrev pub outcome_of : Found → List Float → Outcome
outcome_of f point = outcome f.step f.count point

abbrev pub SearchMeets : Type 0
SearchMeets =
    (c : Cone) (primal : Bool) (dq q point : List Float) (s : Settings) → Doubles s
    → let l = backtrack_search_of c primal dq q point s in
    l.answer.code ≡ 0 → AsDemanded (problem_of c primal dq q s) (outcome_of l.answer l.slice)

-- ---- 000, 001, 002 step_length, on both sides

abbrev pub dual_outcome : Steps → List Float → Outcome
dual_outcome r point = outcome r.dualstep r.dualcount point

abbrev pub primal_outcome : Steps → List Float → Outcome
primal_outcome r point = outcome r.primalstep r.primalcount point

abbrev pub BothAsDemanded : Cone → List Float → List Float → List Float → List Float → Settings → LentTwo Steps → Type 0
BothAsDemanded c dz ds z s settings l =
    AsDemanded (problem_of c false dz z settings) (dual_outcome l.answer l.first)
    × AsDemanded (problem_of c true ds s settings) (primal_outcome l.answer l.second)

abbrev pub StepMeets : Type 0
StepMeets =
    (c : Cone) (dz ds z s dual_point primal_point : List Float) (settings : Settings) → Doubles settings
    → let l = step_length_of c dz ds z s dual_point primal_point settings in
    l.answer.code ≡ 0 → BothAsDemanded c dz ds z s settings l
