-- What a contract allows is what the definition makes; where its number is 0 no row applied, so that the cone was accepted and the answer is
-- the test's. Assumes nothing.
use mathlib.Core.Path.{◌≡◌, refl, ◌∙◌, sym, ap}
use mathlib.Core.Bool.{Bool, true, false}
use mathlib.Core.List.{List}
use lib.Ieee.{Float}
use borrow.Author.Tests.{not-false}
use Rattle.cone.specs.declared.Cone.{Cone}
use Rattle.cone.specs.declared.verdict.Verdict.{Verdict}
use Rattle.cone.specs.table.Table.{settle}
use Rattle.cone.proofs.table.Settled.{done, no_fault}
use Rattle.kinds.specs.Answers.{answer_of}
use Rattle.call_cone.specs.formulas.Rows.{read_rows, read_faults}
use Rattle.call_cone.specs.formulas.Entries.{refuse_verdict, verdict_of, is_primal_feasible_of, is_dual_feasible_of}
use Rattle.call_search.proofs.single.Demand3.{let_through}
use Rattle.promises.specs.rules.Entries.{call, verdict}
use Rattle.promises.specs.demand_one.Calls.{made, answered}
use Rattle.promises.specs.undecided.Calls.{Tells, CallsTell}
use Rattle.promises.proofs.allowed.Defined.{as_defined}
use Rattle.promises.proofs.undecided.Laws.{laws}

module _ (c : Cone) (primal : Bool) (p : List Float) where
  abbrev told : Verdict
  told = settle (read_rows c p) (verdict_of (answer_of c primal p)) refuse_verdict

  tells : (v : Verdict) → v ≡ told → v.code ≡ 0 → Tells c primal p v
  unfolding read_faults
  tells v e zero =
      let k : read_rows c p ≡ 0 = let_through (λ (w : Verdict). w.code) (verdict_of (answer_of c primal p)) refuse_verdict (λ j. refl) _
      (sym (ap (λ (w : Verdict). w.code) e) ∙ zero) in
      record {
        answer = ap (λ (w : Verdict). w.answer) (e ∙ sym (done _ _ (verdict_of (answer_of c primal p)) refuse_verdict refl k));
        laws = laws c (not-false _ (no_fault _ k).cone) primal p;
      }

pub calls_tell : CallsTell
unfolding made call is_primal_feasible_of is_dual_feasible_of
calls_tell = record {
  primal = λ c s v h. let e : answered (verdict v) ≡ answered (verdict (told c true s)) = as_defined _ _ h in tells c true s v (cc);
  dual = λ c z v h. let e : answered (verdict v) ≡ answered (verdict (told c false z)) = as_defined _ _ h in tells c false z v (cc);
}
