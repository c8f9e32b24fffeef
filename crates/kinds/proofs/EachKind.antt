-- A cone that row 1 lets through is of kind 1, 2 or 3, and has what the row asks of that kind. Assumes nothing.
use mathlib.Core.Path.{◌≡◌, refl, sym, subst}
use mathlib.Core.Bool.{Bool, true, false}
use mathlib.Core.List.{List}
use Prim.Native.Nat.{ℕ}
use lib.Dec.{eqb}
use lib.Ieee.{Float}
use borrow.Author.Tests.{eqb-true}
use Rattle.arith.proofs.Branches.{and_right, false_not_true}
use Rattle.double.specs.Operators.{at}
use Rattle.cone.specs.declared.Cone.{Cone}
use Rattle.judges.specs.Judges.{power_ok, rule_ok, tolerance_of, wide_ok, three_ok, cone_ok_within, cone_ok}

abbrev pub cone : ℕ → ℕ → ℕ → ℕ → List Float → Cone
cone kind dim1 dim2 rule exps = record { kind = kind; dim1 = dim1; dim2 = dim2; rule = rule; exps = exps }

-- P, shown of each kind in turn, holds of every such cone
module _ (P : Cone → Type 0) (d₁ d₂ rule : ℕ) (exps : List Float)
    (one : P (cone 1 d₁ d₂ rule exps)) (two : power_ok (at exps 0) ≡ true → P (cone 2 d₁ d₂ rule exps))
    (three : wide_ok d₁ d₂ exps (tolerance_of rule) ≡ true → P (cone 3 d₁ d₂ rule exps)) where
  abbrev At : ℕ → Type 0
  At kind = P (cone kind d₁ d₂ rule exps)

  of_three : (kind : ℕ) (is-1 is-2 : Bool) → eqb kind 1 ≡ is-1 → eqb kind 2 ≡ is-2 → three_ok kind (at exps 0) ≡ true → At kind
  unfolding three_ok
  of_three kind true is-2 e f ok = subst At (sym (eqb-true kind 1 e)) one
  of_three kind false true e f ok = subst At (sym (eqb-true kind 2 f)) (two (rw (e, f) at ok))
  of_three kind false false e f ok = absurd (false_not_true (rw (e, f) at ok))

  of_all : (kind : ℕ) (is-3 : Bool) → eqb kind 3 ≡ is-3 → cone_ok_within (tolerance_of rule) (cone kind d₁ d₂ rule exps) ≡ true → At kind
  unfolding cone_ok_within
  of_all kind true e ok = subst At (sym (eqb-true kind 3 e)) (three (rw e at ok))
  of_all kind false e ok = of_three kind (eqb kind 1) (eqb kind 2) refl refl (rw e at ok)

  pub each_kind : (kind : ℕ) → cone_ok (cone kind d₁ d₂ rule exps) ≡ true → At kind
  unfolding cone_ok
  each_kind kind ok = of_all kind (eqb kind 3) refl (and_right (rule_ok rule) _ ok)
