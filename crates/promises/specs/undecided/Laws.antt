-- What Order 5 says of the answers that searches and entries ask for, `answer_of`, of a cone that row 1 lets through. Statements only;
-- proofs/undecided/Laws proves them.
use Rattle.std.specs.Prelude.{◌≡◌, Bool, true, false, List, length, Float}
use Rattle.std.specs.Float.{nan, inf}
use Rattle.double.specs.Operators.{◌≺◌}
use Rattle.double.specs.Numbers.{#0}
use Rattle.cone.specs.declared.verdict.Answer.TheVariants.{No, Yes, Undecided}
use Rattle.cone.specs.verdict.Answers.{judged}
use Rattle.cone.specs.declared.Cone.{Cone}
use Rattle.cone.specs.Codes.{numel_of}
use Rattle.judges.specs.Judges.{cone_ok, all_finite}
use Rattle.kinds.specs.Answers.{answer_of}
use Rattle.kinds.specs.Passes.{passes_in}
use Rattle.promises.specs.undecided.Parts.{signs_of, residue_of, margin_of, passed_before}

pub record Laws (c : Cone) (primal : Bool) (p : List Float) : Type 0 where
  -- "Yes if the residue is above the margin, no if it is below minus the margin or a sign test fails, else undecided"
  pub told_by : answer_of c primal p ≡ judged (signs_of c primal p) (residue_of c primal p) (margin_of c primal p)
  pub no_by_sign : signs_of c primal p ≡ false → answer_of c primal p ≡ No
  -- "else undecided, NaN and infinite margins included", whatever the residue is
  pub nan_margin_undecided : signs_of c primal p ≡ true → margin_of c primal p ≡ nan → answer_of c primal p ≡ Undecided
  pub infinite_margin_undecided : (s : Bool) → signs_of c primal p ≡ true → margin_of c primal p ≡ inf s → answer_of c primal p ≡ Undecided
  -- a NaN residue is neither above the margin nor below minus the margin, whatever the margin is
  pub nan_residue_undecided : signs_of c primal p ≡ true → residue_of c primal p ≡ nan → answer_of c primal p ≡ Undecided
  -- "a trial point with an infinity or NaN in it counts as undecided unless a sign test fails"
  pub not_finite_undecided :
      length p ≡ numel_of c → all_finite p ≡ false → signs_of c primal p ≡ true → answer_of c primal p ≡ Undecided
  pub not_finite_fails : length p ≡ numel_of c → all_finite p ≡ false → passes_in c.kind c.dim1 c.exps primal p ≡ false
  -- a margin is no number below 0 where the sign tests hold
  pub margin_not_negative : signs_of c primal p ≡ true → (margin_of c primal p ≺ #0) ≡ false
  -- so that what is decided is decided as before: the order takes answers back and turns none round
  pub yes_before : answer_of c primal p ≡ Yes → passed_before c primal p ≡ true
  pub no_before : answer_of c primal p ≡ No → passed_before c primal p ≡ false

-- the laws of every cone that row 1 lets through, on each side and at any point
abbrev pub ThreeAnswers : Type 0
ThreeAnswers = (c : Cone) → cone_ok c ≡ true → (primal : Bool) (p : List Float) → Laws c primal p
