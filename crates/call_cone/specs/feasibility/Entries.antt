-- What the two feasibility entries answer, for all arguments. Definitions only.
use Rattle.std.specs.Prelude.{ℕ, Bool, true, false, List, Float}
use Rattle.cone.specs.declared.verdict.Verdict.{Verdict}
use Rattle.cone.specs.declared.verdict.Answer.{Answer}
use Rattle.cone.specs.verdict.Answers as verdict
use Rattle.cone.specs.declared.Cone.{Cone}
use Rattle.cone.specs.table.Table.{settle}
use Rattle.kinds.specs.Answers.{answer_of}
use Rattle.call_cone.specs.feasibility.Rows.{read_rows}

-- 01: "A refusal returns .. no for a yes or no", and 0 stands for no
abbrev pub refuse_verdict : ℕ → Verdict
refuse_verdict k = record { code = k; answer = 0 }

-- an answer by its number
abbrev pub verdict_of : Answer → Verdict
verdict_of a = record { code = 0; answer = verdict.number_of a }

-- either test: of the cone, or of its dual
abbrev pub feasible_of : Cone → Bool → List Float → Verdict
feasible_of c primal s = settle (read_rows c s) (verdict_of (answer_of c primal s)) refuse_verdict

-- 000, 001, 002 is_primal_feasible
unfoldable pub is_primal_feasible_of : Cone → List Float → Verdict
is_primal_feasible_of c s = feasible_of c true s

-- 000, 001, 002 is_dual_feasible
unfoldable pub is_dual_feasible_of : Cone → List Float → Verdict
is_dual_feasible_of c z = feasible_of c false z
