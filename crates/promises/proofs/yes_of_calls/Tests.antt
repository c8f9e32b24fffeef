-- The answer of a cone of any kind, asked by kind and of a list, is that of its cone's test, so that what is proved of the three tests holds
-- of it. Assumes nothing.
use mathlib.Core.Path.{◌≡◌, refl, sym, ◌∙◌}
use mathlib.Core.Bool.{Bool, true, false, cond}
use mathlib.Core.List.{List}
use Prim.Native.Nat.{ℕ, ◌<◌}
use native.Mathlib.Omega.{arith}
use lib.ListN.{take}
use lib.Ieee.{Float}
use lib.Ieee.Positive.{num}
use Rattle.double.specs.Operators.{at}
use Rattle.series.specs.change.SignedArithmetic.{BelowZero}
use Rattle.cone.specs.declared.verdict.Answer.{Answer}
use Rattle.cone.specs.declared.verdict.Answer.TheVariants.{No, Yes}
use Rattle.cone.specs.declared.Cone.{Cone}
use Rattle.cone.specs.Points.{three_of}
use Rattle.expcone.specs.feasible.Primal as primal
use Rattle.expcone.specs.feasible.Dual as dual
use Rattle.expcone.specs.feasible.Feasible as expcone
use Rattle.powcone.specs.Feasible as powcone
use Rattle.genpowcone.specs.Feasible as genpowcone
use Rattle.kinds.specs.Answers.{exp_answer, pow_answer, genpow_answer, answer_in, answer_of}
use Rattle.kinds.specs.Cones.{alpha_of, alphas_of}
use Rattle.certain.specs.Coordinates.{Point}
use Rattle.certain.specs.power.Meaning.{Exponent}
use Rattle.certain.specs.wide.Meaning as wide
use Rattle.certain.specs.wide.Meaning.{Exponents}
use Rattle.certain.specs.wide.Tests.{over}
use Rattle.certain.proofs.Meaning as exponential
use Rattle.promises.proofs.yes_of_cones.Meaning as power
use Rattle.promises.specs.yes_of_calls.Points.{ExactlyInside, BelowWall}
use Rattle.promises.specs.yes_of_calls.Points.{InsideExponential, InsidePower, InsideGeneralized}
use Rattle.promises.specs.yes_of_calls.Points.{exponential_number, power_number, generalized_number}
use Rattle.promises.proofs.yes_of_calls.Accepted.{Accepted, some_kind, exponent_of_lem, exponents-of, three_coordinates, all_coordinates}

-- ---- the choice by kind

-- the exponential cone's test on three numbers, by side
abbrev exp_at : Bool → List Float → Answer
exp_at true s = primal.answer (at s 0) (at s 1) (at s 2)
exp_at false z = dual.answer (at z 0) (at z 1) (at z 2)

kind_one : (kind dim1 : ℕ) (exps : List Float) (primal : Bool) (p : List Float) → kind ≡ 1 → answer_in kind dim1 exps primal p ≡ exp_at primal p
unfolding answer_in exp_answer expcone.primal_feasible expcone.primal_signs expcone.primal_residue expcone.primal_residue_at expcone.primal_margin
    expcone.primal_margin_at expcone.dual_feasible expcone.dual_signs expcone.dual_residue expcone.dual_residue_at expcone.dual_margin
    expcone.dual_margin_at
kind_one kind dim1 exps true p e = rw e refl
kind_one kind dim1 exps false p e = rw e refl

kind_two : (kind dim1 : ℕ) (exps : List Float) (primal : Bool) (p : List Float) → kind ≡ 2
    → answer_in kind dim1 exps primal p ≡ pow_answer (at exps 0) primal (three_of p)
unfolding answer_in
kind_two kind dim1 exps primal p e = rw e refl

kind_three : (kind dim1 : ℕ) (exps : List Float) (primal : Bool) (p : List Float) → kind ≡ 3
    → answer_in kind dim1 exps primal p ≡ genpow_answer (take dim1 exps) primal p
unfolding answer_in
kind_three kind dim1 exps primal p e = rw e refl

-- ---- an accepted call's cone and point

module _ (c : Cone) (p : List Float) (a : Accepted c p) where
  abbrev α : Float
  α = alpha_of c

  abbrev αs : List Float
  αs = alphas_of c

  module _ (one : c.kind ≡ 1) where
    is_one : (primal : Bool) → answer_of c primal p ≡ exp_at primal p
    is_one primal = kind_one c.kind c.dim1 c.exps primal p one

    point : Point (at p 0) (at p 1) (at p 2)
    point = three_coordinates c p a (λ t. omega (arith, one))

    inside_one : (primal : Bool) → answer_of c primal p ≡ Yes → InsideExponential primal p
    inside_one true e = (exponential.meaning).primal_yes (at p 0) (at p 1) (at p 2) point (sym (is_one true) ∙ e)
    inside_one false e = (exponential.meaning).dual_yes (at p 0) (at p 1) (at p 2) point (sym (is_one false) ∙ e)

    below_one : (primal : Bool) → cond primal (expcone.primal_signs p) (expcone.dual_signs p) ≡ true → answer_of c primal p ≡ No
        → BelowZero (exponential_number primal p)
    unfolding expcone.primal_signs expcone.dual_signs
    below_one true s e = (exponential.meaning).primal_no (at p 0) (at p 1) (at p 2) point s (sym (is_one true) ∙ e)
    below_one false s e = (exponential.meaning).dual_no (at p 0) (at p 1) (at p 2) point s (sym (is_one false) ∙ e)

  module _ (two : c.kind ≡ 2) where
    is-two : (primal : Bool) → answer_of c primal p ≡ pow_answer α primal (three_of p)
    is-two primal = kind_two c.kind c.dim1 c.exps primal p two

    exponent : Exponent α
    exponent = exponent_of_lem c a.ok a.held two

    point-two : Point (at p 0) (at p 1) (at p 2)
    point-two = three_coordinates c p a (λ t. omega (arith, two))

    inside_two : (primal : Bool) → answer_of c primal p ≡ Yes → InsidePower primal α p
    unfolding pow_answer
    inside_two true e = (power.meaning).power_yes α (three_of p) exponent point-two (sym (is-two true) ∙ e)
    inside_two false e = (power.meaning).power_dual_yes α (three_of p) exponent point-two (sym (is-two false) ∙ e)

    below_two : (primal : Bool) → powcone.signs p ≡ true → answer_of c primal p ≡ No → (0 < num (at p 2)) × BelowZero (power_number primal α p)
    unfolding pow_answer powcone.signs
    below_two true s e = (power.meaning).power_no α (three_of p) exponent point-two s (sym (is-two true) ∙ e)
    below_two false s e = (power.meaning).power_dual_no α (three_of p) exponent point-two s (sym (is-two false) ∙ e)

  module _ (three : c.kind ≡ 3) where
    is-three : (primal : Bool) → answer_of c primal p ≡ genpow_answer αs primal p
    is-three primal = kind_three c.kind c.dim1 c.exps primal p three

    exponents : Exponents αs
    exponents = exponents-of c a.ok a.held three

    all_point : wide.Point αs p
    all_point = all_coordinates c p a three

    inside_three : (primal : Bool) → answer_of c primal p ≡ Yes → InsideGeneralized primal αs p
    unfolding genpow_answer
    inside_three true e = (power.meaning).wide_yes αs p exponents all_point (sym (is-three true) ∙ e)
    inside_three false e = (power.meaning).wide_dual_yes αs p exponents all_point (sym (is-three false) ∙ e)

    below-three : (primal : Bool) → genpowcone.signs αs p ≡ true → answer_of c primal p ≡ No
        → (0 < over αs p) × BelowZero (generalized_number primal αs p)
    unfolding genpow_answer
    below-three true s e = (power.meaning).wide_no αs p exponents all_point s (sym (is-three true) ∙ e)
    below-three false s e = (power.meaning).wide_dual_no αs p exponents all_point s (sym (is-three false) ∙ e)

  pub yes_inside : (primal : Bool) → answer_of c primal p ≡ Yes → ExactlyInside c primal p
  yes_inside primal e = record {
    some_kind = some_kind c a.ok;
    exponential = λ one. inside_one one primal e;
    power = λ two. inside_two two primal e;
    generalized = λ three. inside_three three primal e;
  }

  pub no_below : (primal : Bool) → answer_of c primal p ≡ No → BelowWall c primal p
  no_below primal e = record {
    exponential = λ one s. below_one one primal s e;
    power = λ two s. below_two two primal s e;
    generalized = λ three s. below-three three primal s e;
  }
