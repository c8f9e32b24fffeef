-- A test reads the exponent places that the cone's kind uses, so it may be handed those alone. Assumes nothing.
use mathlib.Core.Path.{◌≡◌, refl, sym, ap, ◌∙◌}
use mathlib.Core.Bool.{Bool, true, false, cond}
use mathlib.Core.List.{List}
use Prim.Native.Nat.{ℕ, ◌≤◌}
use native.Mathlib.Omega.{arith}
use lib.Dec.{eqb, ltb}
use lib.ListN.{take}
use lib.Seq.{get_or-take}
use lib.Ieee.{Float, nan}
use borrow.Author.Tests.{ltb-true}
use Rattle.double.specs.Operators.{at}
use Rattle.cone.specs.declared.verdict.Answer.{Answer}
use Rattle.cone.specs.declared.verdict.Answer.TheVariants.{No}
use Rattle.cone.specs.verdict.Answers.{is_yes}
use Rattle.cone.specs.Points.{three_of}
use Rattle.cone.specs.words.Words.{places_of}
use Rattle.cone.proofs.words.Words.{places_same}
use Rattle.kinds.specs.Answers.{exp_answer, pow_answer, genpow_answer, used_of, answer_in}
use Rattle.kinds.specs.Passes.{passes_in}

abbrev few_of : ℕ → ℕ
few_of dim1 = cond (ltb dim1 32) dim1 32

few_most : (dim1 : ℕ) → few_of dim1 ≤ 32
few_most dim1 = go (ltb dim1 32) refl
  where
    go : (b : Bool) → ltb dim1 32 ≡ b → cond b dim1 32 ≤ 32
    go true e = omega (arith, ltb-true dim1 32 e)
    go false e = omega arith

pub used_most : (kind dim1 : ℕ) → used_of kind dim1 ≤ 32
unfolding used_of
used_most kind dim1 = go (eqb kind 2) (eqb kind 3)
  where
    go : (b c : Bool) → cond b 1 (cond c (few_of dim1) 0) ≤ 32
    go true c = omega arith
    go false true = few_most dim1
    go false false = omega arith

module _ (w : List ℕ) where
  first_place : at (places_of w 1) 0 ≡ at (places_of w 32) 0
  first_place =
      sym (get_or-take 1 (places_of w 1) 0 nan (omega arith)) ∙ ap (λ (l : List Float). at l 0) (places_same w 1 (omega arith))
      ∙ get_or-take 1 (places_of w 32) 0 nan (omega arith)

  front_places : (dim1 : ℕ) → take dim1 (places_of w (few_of dim1)) ≡ take dim1 (places_of w 32)
  front_places dim1 = go (ltb dim1 32) refl
    where
      go : (b : Bool) → ltb dim1 32 ≡ b → take dim1 (places_of w (cond b dim1 32)) ≡ take dim1 (places_of w 32)
      go true e = places_same w dim1 (omega (arith, ltb-true dim1 32 e))
      go false e = refl

  module _ (kind dim1 : ℕ) (primal : Bool) (p : List Float) where
    abbrev answer : Bool → Bool → Bool → List Float → Answer
    answer one two three exps =
        cond one (exp_answer primal (three_of p))
        (cond two (pow_answer (at exps 0) primal (three_of p)) (cond three (genpow_answer (take dim1 exps) primal p) No))

    same_answer : (one two three : Bool)
        → answer one two three (places_of w (cond two 1 (cond three (few_of dim1) 0))) ≡ answer one two three (places_of w 32)
    same_answer true two three = refl
    same_answer false true three = ap (λ (α : Float). pow_answer α primal (three_of p)) first_place
    same_answer false false true = ap (λ (α : List Float). genpow_answer α primal p) (front_places dim1)
    same_answer false false false = refl

    pub used_suffice : passes_in kind dim1 (places_of w (used_of kind dim1)) primal p ≡ passes_in kind dim1 (places_of w 32) primal p
    unfolding passes_in answer_in used_of
    used_suffice = ap is_yes (same_answer (eqb kind 1) (eqb kind 2) (eqb kind 3))
