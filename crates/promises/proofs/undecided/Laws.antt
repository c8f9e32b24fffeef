-- The laws of specs/undecided/Laws, of every cone that row 1 lets through: each kind says how its answer is made, that its margin has no
-- sign and when it is boundless; the rest follows for all alike. Assumes nothing.
use mathlib.Core.Path.{◌≡◌, refl, sym, subst, ap, ◌∙◌}
use mathlib.Core.Bool.{Bool, true, false, not, ◌&&◌}
use mathlib.Core.List.{List, [], ◌∷◌}
use Prim.Native.Nat.{ℕ}
use native.Mathlib.Omega.{arith}
use lib.Dec.{T, leb}
use lib.ListN.{length, take}
use lib.Ieee.{Float, inf}
use lib.Ieee.Scale.{finite}
use Rattle.arith.proofs.Branches.{and_left, and_right, false_not_true}
use Rattle.double.specs.Operators.{at}
use Rattle.cone.specs.verdict.Answers.{is_yes, judged}
use Rattle.cone.specs.declared.Cone.{Cone}
use Rattle.cone.specs.Codes.{numel_of}
use Rattle.judges.specs.Judges.{all_of, all_finite, power_ok, exponent_ok, tolerance_of, sum_ok, wide_ok, cone_ok}
use Rattle.cone.specs.Points.{three_of}
use Rattle.expcone.specs.feasible.Feasible as expcone
use Rattle.powcone.specs.Feasible as powcone
use Rattle.genpowcone.specs.Feasible as genpowcone
use Rattle.kinds.specs.Answers.{exp_answer, pow_answer, genpow_answer, answer_in, answer_of}
use Rattle.kinds.specs.Passes.{passes_in}
use Rattle.kinds.proofs.EachKind.{cone, each_kind}
use Rattle.promises.specs.undecided.Parts.{signs_of, residue_of, margin_of}
use Rattle.promises.specs.undecided.Laws.{ThreeAnswers}
use Rattle.promises.proofs.undecided.Unsigned.{unsigned, not_below_zero}
use Rattle.promises.proofs.undecided.Boundless.{boundless}
use Rattle.promises.proofs.undecided.Told.{boundless_undecided, nan_undecided, yes_before, no_before}
use Rattle.promises.proofs.undecided.Exponential as exponential
use Rattle.promises.proofs.undecided.Power as power
use Rattle.promises.proofs.undecided.Generalized as generalized

-- what each kind says of itself
record Facts (c : Cone) (primal : Bool) (p : List Float) : Type 0 where
  pub made : answer_of c primal p ≡ judged (signs_of c primal p) (residue_of c primal p) (margin_of c primal p)
  pub margin-unsigned : signs_of c primal p ≡ true → T (unsigned (margin_of c primal p))
  pub margin-boundless : length p ≡ numel_of c → all_finite p ≡ false → signs_of c primal p ≡ true → T (boundless (margin_of c primal p))

holds : {b : Bool} → b ≡ true → T b
holds e = subst T (sym e) tt

-- ---- kinds 1 and 2: a point of three numbers

not_all : (a b c : Bool) → (a && (b && (c && true))) ≡ false → T (not (a && b && c))
not_all true true true e = absurd (false_not_true (sym e))
not_all true true false e = tt
not_all true false c e = tt
not_all false b c e = tt

not_three : (p : List Float) → length p ≡ 3 → all_finite p ≡ false
    → T (not (finite (at (three_of p) 0) && finite (at (three_of p) 1) && finite (at (three_of p) 2)))
unfolding all_of
not_three [] l e = absurd (omega arith)
not_three (x ∷ []) l e = absurd (omega arith)
not_three (x ∷ y ∷ []) l e = absurd (omega arith)
not_three (x ∷ y ∷ z ∷ []) l e = not_all (finite x) (finite y) (finite z) e
not_three (x ∷ y ∷ z ∷ w ∷ p) l e = absurd (omega arith)

module _ (d₁ d₂ rule : ℕ) (exps : List Float) where
  facts_1 : (primal : Bool) (p : List Float) → Facts (cone 1 d₁ d₂ rule exps) primal p
  unfolding answer_in exp_answer expcone.primal_feasible expcone.dual_feasible signs_of residue_of margin_of numel_of
  facts_1 true p = record {
    made = refl;
    margin-unsigned = λ h. exponential.primal_unsigned (three_of p) (holds h);
    margin-boundless = λ l n h. exponential.primal_boundless (three_of p) (not_three p l n) (holds h);
  }
  facts_1 false p = record {
    made = refl;
    margin-unsigned = λ h. exponential.dual-unsigned (three_of p);
    margin-boundless = λ l n h. exponential.dual-boundless (three_of p) (not_three p l n) (holds h);
  }

  facts_2 : (primal : Bool) (p : List Float) → power_ok (at exps 0) ≡ true → Facts (cone 2 d₁ d₂ rule exps) primal p
  unfolding answer_in pow_answer powcone.primal_feasible powcone.dual_feasible signs_of residue_of margin_of numel_of
  facts_2 true p ok = record {
    made = refl;
    margin-unsigned = λ h. power.primal_unsigned (at exps 0) (three_of p);
    margin-boundless = λ l n h. power.primal_boundless (at exps 0) (holds ok) (three_of p) (holds h) (not_three p l n);
  }
  facts_2 false p ok = record {
    made = refl;
    margin-unsigned = λ h. power.dual-unsigned (at exps 0) (three_of p);
    margin-boundless = λ l n h. power.dual-boundless (at exps 0) (holds ok) (three_of p) (holds h) (not_three p l n);
  }

  -- kind 3: no length is asked, since a coordinate is a head or of the tail
  facts_3 : (primal : Bool) (p : List Float) → all_of exponent_ok (take d₁ exps) ≡ true → Facts (cone 3 d₁ d₂ rule exps) primal p
  unfolding answer_in genpow_answer genpowcone.primal_feasible genpowcone.dual_feasible signs_of residue_of margin_of
  facts_3 true p ok = record {
    made = refl;
    margin-unsigned = λ h. generalized.primal_unsigned (take d₁ exps) p;
    margin-boundless = λ l n h. generalized.primal_boundless (take d₁ exps) p (holds ok) (holds h) n;
  }
  facts_3 false p ok = record {
    made = refl;
    margin-unsigned = λ h. generalized.dual-unsigned (take d₁ exps) p;
    margin-boundless = λ l n h. generalized.dual-boundless (take d₁ exps) p (holds ok) (holds h) n;
  }

  wide_exponents : wide_ok d₁ d₂ exps (tolerance_of rule) ≡ true → all_of exponent_ok (take d₁ exps) ≡ true
  unfolding wide_ok
  wide_exponents ok =
      let α = take d₁ exps in
      let dims = leb 1 d₁ && leb d₁ 32 && leb 1 d₂ && leb d₂ 32 in
      and_right dims (all_of exponent_ok α) (and_left (dims && all_of exponent_ok α) (sum_ok α (tolerance_of rule)) ok)

facts : (c : Cone) → cone_ok c ≡ true → (primal : Bool) (p : List Float) → Facts c primal p
facts c ok primal p =
    let d₁ = c.dim1 in
    let d₂ = c.dim2 in
    each_kind (λ (d : Cone). Facts d primal p) d₁ d₂ c.rule c.exps
    (facts_1 d₁ d₂ c.rule c.exps primal p)
    (facts_2 d₁ d₂ c.rule c.exps primal p)
    (λ wide. facts_3 d₁ d₂ c.rule c.exps primal p (wide_exponents d₁ d₂ c.rule c.exps wide)) c.kind ok

-- ---- all kinds

-- a trial with a number that is not finite does not pass: no, or undecided
fails : (signs : Bool) (res margin : Float) → (signs ≡ true → T (boundless margin)) → is_yes (judged signs res margin) ≡ false
fails true res margin b = ap is_yes (boundless_undecided true res margin refl (b refl))
fails false res margin b = refl

pub laws : ThreeAnswers
unfolding passes_in
laws c ok primal p = record {
  told_by = f.made;
  no_by_sign = λ h. f.made ∙ ap (λ (s : Bool). judged s res margin) h;
  nan_margin_undecided = λ h e. f.made ∙ boundless_undecided signs res margin h (rw e tt);
  infinite_margin_undecided = λ s h e. f.made ∙ boundless_undecided signs res margin h (infinite s e (f.margin-unsigned h));
  nan_residue_undecided = λ h e. f.made ∙ nan_undecided signs res margin h e;
  not_finite_undecided = λ l n h. f.made ∙ boundless_undecided signs res margin h (f.margin-boundless l n h);
  not_finite_fails = λ l n. ap is_yes f.made ∙ fails signs res margin (f.margin-boundless l n);
  margin_not_negative = λ h. not_below_zero margin (f.margin-unsigned h);
  yes_before = λ e. yes_before signs res margin f.margin-unsigned (sym f.made ∙ e);
  no_before = λ e. no_before signs res margin f.margin-unsigned (sym f.made ∙ e);
}
  where
    signs : Bool
    signs = signs_of c primal p

    res : Float
    res = residue_of c primal p

    margin : Float
    margin = margin_of c primal p

    f : Facts c primal p
    f = facts c ok primal p

    -- minus infinity has a sign
    infinite : (s : Bool) → margin ≡ inf s → T (unsigned margin) → T (boundless margin)
    infinite true e u = absurd (rw e at u)
    infinite false e u = rw e tt
