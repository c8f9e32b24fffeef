-- Order 12 of the exported feasibility: a refused call answers no and has another number than 0, so that the answer is the test's, and the
-- call was accepted. Assumes nothing.
use mathlib.Core.Path.{◌≡◌, refl, ap}
use mathlib.Core.Bool.{Bool, true, false}
use mathlib.Core.List.{List}
use Prim.Native.Nat.{ℕ, zero, suc}
use native.Mathlib.Omega.{arith}
use lib.ListN.{length}
use lib.Ieee.{Float}
use borrow.Author.Tests.{not-false}
use Rattle.cone.specs.declared.verdict.Answer.{Answer}
use Rattle.cone.specs.declared.verdict.Answer.TheVariants.{No, Yes, Undecided}
use Rattle.cone.specs.declared.verdict.Verdict.{Verdict}
use Rattle.cone.specs.verdict.Answers.{number_of}
use Rattle.cone.specs.declared.Cone.{Cone}
use Rattle.cone.specs.Codes.{numel_of}
use Rattle.cone.specs.table.Table.{settle}
use Rattle.cone.proofs.table.Settled.{no_fault}
use Rattle.judges.proofs.Lengths.{same_1}
use Rattle.kinds.specs.Answers.{answer_of}
use Rattle.call_cone.specs.formulas.Rows.{read_rows, read_faults}
use Rattle.call_cone.specs.formulas.Entries.{refuse_verdict, verdict_of, is_primal_feasible_of, is_dual_feasible_of}
use Rattle.promises.specs.yes_of_calls.Points.{AllDoubles, Held, AllInRange, ExactlyInside, BelowWall}
use Rattle.promises.specs.yes_of_calls.Feasibility.{FeasibilityCertain}
use Rattle.promises.proofs.yes_of_calls.Accepted.{Accepted}
use Rattle.promises.proofs.yes_of_calls.Tests.{yes_inside, no_below}

yes_of_number : (a : Answer) → number_of a ≡ number_of Yes → a ≡ Yes
yes_of_number No e = absurd (omega arith)
yes_of_number Yes e = refl
yes_of_number Undecided e = absurd (omega arith)

no_of_number : (a : Answer) → number_of a ≡ number_of No → a ≡ No
no_of_number No e = refl
no_of_number Yes e = absurd (omega arith)
no_of_number Undecided e = absurd (omega arith)

-- k is the number of the call's rows, a the test's answer
answered_yes : (k : ℕ) (a : Answer) → (settle k (verdict_of a) refuse_verdict).answer ≡ number_of Yes → (k ≡ 0) × (a ≡ Yes)
unfolding settle
answered_yes zero a e = (refl, yes_of_number a e)
answered_yes (suc k) a e = absurd (omega arith)

answered_no : (k : ℕ) (a : Answer) → settle k (verdict_of a) refuse_verdict ≡ verdict_of No → (k ≡ 0) × (a ≡ No)
unfolding settle
answered_no zero a e = (refl, no_of_number a (ap (λ (v : Verdict). v.answer) e))
answered_no (suc k) a e = absurd (other k (ap (λ (v : Verdict). v.code) e))
  where
    other : (k : ℕ) → suc k ≡ 0 → ⊥
    other k e = omega arith

module _ (c : Cone) (held : Held c) (p : List Float) (doubles : AllDoubles p) (sizes : AllInRange p) where
  accepted : read_rows c p ≡ 0 → Accepted c p
  unfolding read_faults
  accepted e =
      let f = no_fault _ e in
      record {
        held = held;
        ok = not-false _ f.cone;
        long = same_1 (numel_of c) (length p) f.length;
        doubles = doubles;
        sizes = sizes;
      }

  says_yes : (primal : Bool) → (settle (read_rows c p) (verdict_of (answer_of c primal p)) refuse_verdict).answer ≡ number_of Yes
      → ExactlyInside c primal p
  says_yes primal e = let h = answered_yes (read_rows c p) (answer_of c primal p) e in yes_inside c p (accepted h.0) primal h.1

  says_no : (primal : Bool) → settle (read_rows c p) (verdict_of (answer_of c primal p)) refuse_verdict ≡ verdict_of No → BelowWall c primal p
  says_no primal e = let h = answered_no (read_rows c p) (answer_of c primal p) e in no_below c p (accepted h.0) primal h.1

pub feasibility_certain : FeasibilityCertain
unfolding is_primal_feasible_of is_dual_feasible_of
feasibility_certain c held p doubles sizes = record {
  primal_yes = says_yes c held p doubles sizes true;
  dual_yes = says_yes c held p doubles sizes false;
  primal_no = says_no c held p doubles sizes true;
  dual_no = says_no c held p doubles sizes false;
}
