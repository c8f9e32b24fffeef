-- What a tolerance takes, a larger one takes: the sum's distance from 1 goes on through the smaller tolerance, above and below. Assumes
-- nothing.
use Prim.Native.Nat.{ℕ}
use mathlib.Core.Path.{◌≡◌, refl}
use mathlib.Core.Bool.{Bool, true, false, cond, ◌&&◌}
use mathlib.Core.List.{List}
use lib.Dec.{eqb, leb}
use lib.Ieee.{Float, neg, lt, eq, le, of_bits}
use lib.ListN.{take}
use Rattle.arith.proofs.Branches.{and_left, and_right, and_both}
use Rattle.double.specs.Operators.{◌⊖◌, ◌≼◌}
use Rattle.double.specs.Numbers.{#1, #tolerance1, #tolerance2}
use Rattle.algebra.specs.Vectors.{sum_of}
use Rattle.cone.specs.declared.Cone.{Cone}
use Rattle.judges.specs.Judges.{all_of, exponent_ok, rule1, rule2, rule_ok, tolerance_of, sum_ok, wide_ok, cone_ok_within, cone_ok}
use Rattle.promises.specs.rules.Entries.{under}
use Rattle.promises.specs.rules.Rules.{Wider}
use Rattle.promises.proofs.rules.Order.{at_most_through, signs-turn}

module _ (a b : Float) (wider : (a ≼ b) ≡ true) where
  sum_wider : (α : List Float) → sum_ok α a ≡ true → sum_ok α b ≡ true
  sum_wider α ok =
      let d = sum_of α ⊖ #1 in
      and_both (d ≼ b) (neg b ≼ d)
      (at_most_through d a b (and_left (d ≼ a) (neg a ≼ d) ok) wider)
      (at_most_through (neg b) (neg a) d (signs-turn a b wider) (and_right (d ≼ a) (neg a ≼ d) ok))

  wide_wider : (d₁ d₂ : ℕ) (exps : List Float) → wide_ok d₁ d₂ exps a ≡ true → wide_ok d₁ d₂ exps b ≡ true
  unfolding wide_ok
  wide_wider d₁ d₂ exps ok =
      let α = take d₁ exps in
      let rest = leb 1 d₁ && leb d₁ 32 && leb 1 d₂ && leb d₂ 32 && all_of exponent_ok α in
      and_both rest (sum_ok α b) (and_left rest (sum_ok α a) ok) (sum_wider α (and_right rest (sum_ok α a) ok))

  by_kind : (is-3 x y three : Bool) → (x ≡ true → y ≡ true) → cond is-3 x three ≡ true → cond is-3 y three ≡ true
  by_kind true x y three h ok = h ok
  by_kind false x y three h ok = ok

  within : (c : Cone) → cone_ok_within a c ≡ true → cone_ok_within b c ≡ true
  unfolding cone_ok_within
  within c ok = by_kind (eqb c.kind 3) _ _ _ (wide_wider c.dim1 c.dim2 c.exps) ok

tolerances : (tolerance_of rule2 ≼ tolerance_of rule1) ≡ true
unfolding tolerance_of of_bits le lt eq
tolerances = refl

pub wider : Wider
unfolding cone_ok cone_ok_within
wider = record {
  within = within;
  tolerances = tolerances;
  takes = λ c ok. within (tolerance_of rule2) (tolerance_of rule1) tolerances c ok;
}

either_at_most : (is-2 : Bool) → (cond is-2 #tolerance2 #tolerance1 ≼ #tolerance1) ≡ true
unfolding of_bits le lt eq
either_at_most true = refl
either_at_most false = refl

-- a cone that is taken, whichever rule it has, is taken under rule 1
pub cone_takes : (c : Cone) → cone_ok c ≡ true → cone_ok (under rule1 c) ≡ true
unfolding cone_ok cone_ok_within tolerance_of
cone_takes c ok =
    let t = tolerance_of c.rule in
    wider.within t (tolerance_of rule1) (either_at_most (eqb c.rule rule2)) c (and_right (rule_ok c.rule) (cone_ok_within t c) ok)
