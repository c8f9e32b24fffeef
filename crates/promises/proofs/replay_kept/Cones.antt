-- The cone that a record gives back has all that a search reads of the cone that was given. Assumes nothing.
use mathlib.Core.Path.{◌≡◌, refl, ap}
use mathlib.Core.Bool.{Bool, true, false, ◌&&◌}
use mathlib.Core.List.{List, [], ◌∷◌}
use Prim.Native.Nat.{ℕ}
use native.Mathlib.Omega.{arith}
use lib.Dec.{leb}
use lib.Ieee.{Float}
use lib.ListN.{length, take}
use lib.Seq.{length-take-le}
use Rattle.double.specs.Operators.{at}
use Rattle.cone.specs.declared.Cone.{Cone}
use Rattle.cone.specs.Codes.{numel_of}
use Rattle.judges.specs.Judges.{all_of, exponent_ok, rule_ok, tolerance_of, sum_ok, wide_ok, three_ok, cone_ok_within, cone_ok}
use Rattle.cone.specs.Points.{three_of, padded}
use Rattle.cone.proofs.Points.{padded_front}
use Rattle.judges.proofs.Lengths.{dim1_at-most}
use Rattle.cone.specs.verdict.Answers.{is_yes}
use Rattle.kinds.specs.Answers.{answer_in, pow_answer, genpow_answer}
use Rattle.kinds.specs.Passes.{passes_in}
use Rattle.kinds.proofs.EachKind.{cone, each_kind}
use Rattle.trace_layout.specs.Records.{exponents}
use Rattle.trace.specs.places.Given.{dim1_of, dim2_of, used_exps}

-- as `kept_of` has it
abbrev pub kept_cone : Cone → Cone
kept_cone c = record { kind = c.kind; dim1 = dim1_of c; dim2 = dim2_of c; rule = c.rule; exps = padded 32 (used_exps c) }

abbrev test : Cone → Bool → List Float → Bool
test c primal = passes_in c.kind c.dim1 c.exps primal

-- what a search reads of two cones is the same
pub record Alike (k c : Cone) : Type 0 where
  pub numel : numel_of k ≡ numel_of c
  pub ok : cone_ok k ≡ cone_ok c
  pub dual : test k false ≡ test c false
  pub primal : test k true ≡ test c true

alike_1 : (d₁ d₂ rule : ℕ) (exps : List Float) → Alike (kept_cone (cone 1 d₁ d₂ rule exps)) (cone 1 d₁ d₂ rule exps)
unfolding numel_of cone_ok cone_ok_within three_ok passes_in answer_in
alike_1 d₁ d₂ rule exps = record { numel = refl; ok = refl; dual = refl; primal = refl }

first_kept : (exps : List Float) → length exps ≡ 32 → at (padded 32 (take 1 exps)) 0 ≡ at exps 0
unfolding padded
first_kept [] h = absurd (omega arith)
first_kept (x ∷ xs) h = refl

alike_2 : (d₁ d₂ rule : ℕ) (exps : List Float) → at (padded 32 (take 1 exps)) 0 ≡ at exps 0
    → Alike (kept_cone (cone 2 d₁ d₂ rule exps)) (cone 2 d₁ d₂ rule exps)
unfolding numel_of cone_ok cone_ok_within three_ok passes_in answer_in exponents
alike_2 d₁ d₂ rule exps first = record {
  numel = refl;
  ok = ap (λ (α : Float). rule_ok rule && three_ok 2 α) first;
  dual = ap {B = List Float → Bool} (λ (α : Float) (p : List Float). is_yes (pow_answer α false (three_of p))) first;
  primal = ap {B = List Float → Bool} (λ (α : Float) (p : List Float). is_yes (pow_answer α true (three_of p))) first;
}

alike_3 : (d₁ d₂ rule : ℕ) (exps : List Float) → take d₁ (padded 32 (take d₁ exps)) ≡ take d₁ exps
    → Alike (kept_cone (cone 3 d₁ d₂ rule exps)) (cone 3 d₁ d₂ rule exps)
unfolding numel_of cone_ok cone_ok_within wide_ok passes_in answer_in exponents
alike_3 d₁ d₂ rule exps those = record {
  numel = refl;
  ok =
      ap (λ (α : List Float). rule_ok rule
      && (leb 1 d₁ && leb d₁ 32 && leb 1 d₂ && leb d₂ 32 && all_of exponent_ok α && sum_ok α (tolerance_of rule)))
      those;
  dual = ap {B = List Float → Bool} (λ (α : List Float) (p : List Float). is_yes (genpow_answer α false p)) those;
  primal = ap {B = List Float → Bool} (λ (α : List Float) (p : List Float). is_yes (genpow_answer α true p)) those;
}

-- ---- of any cone that a search takes

pub kept_alike : (c : Cone) → length c.exps ≡ 32 → cone_ok c ≡ true → Alike (kept_cone c) c
kept_alike c places ok =
    each_kind (λ (d : Cone). Alike (kept_cone d) d) c.dim1 c.dim2 c.rule c.exps
    (alike_1 c.dim1 c.dim2 c.rule c.exps)
    (λ _. alike_2 c.dim1 c.dim2 c.rule c.exps (first_kept c.exps places))
    (λ wide. alike_3 c.dim1 c.dim2 c.rule c.exps (heads_kept wide)) c.kind ok
  where
    heads_kept : wide_ok c.dim1 c.dim2 c.exps (tolerance_of c.rule) ≡ true
        → take c.dim1 (padded 32 (take c.dim1 c.exps)) ≡ take c.dim1 c.exps
    heads_kept wide =
        let few = dim1_at-most c.dim1 c.dim2 c.exps (tolerance_of c.rule) wide in
        padded_front 32 (take c.dim1 c.exps) c.dim1 (length-take-le c.dim1 c.exps (omega (arith, few, places)))
