-- The lengths that rows 1 and 2 of the table leave: a point of kinds 1 and 2 has three numbers, one of kind 3 at most 64. Assumes nothing.
use mathlib.Core.Path.{◌≡◌, refl, sym, ◌∙◌, ap}
use mathlib.Core.Bool.{Bool, true, false, cond, not, ◌&&◌, ◌||◌}
use mathlib.Core.List.{List}
use Prim.Native.Nat.{ℕ, ◌+◌, ◌≤◌}
use native.Mathlib.Omega.{arith}
use lib.Dec.{eqb, leb}
use lib.Ieee.{Float}
use lib.ListN.{length, take, length-take}
use lib.Seq.{length-take-le}
use borrow.Author.Tests.{leb-true, eqb-true, eq-eqb, ne_eqb, not-false}
use Rattle.arith.proofs.Branches.{and_left, and_right, or_left, or_right}
use Rattle.double.specs.Operators.{at}
use Rattle.cone.specs.declared.Cone.{Cone}
use Rattle.cone.specs.declared.Scaling.{Scaling}
use Rattle.judges.specs.Judges.{all_of, exponent_ok, rule_ok, tolerance_of, sum_ok, wide_ok, three_ok, cone_ok_within, cone_ok}
use Rattle.cone.specs.Codes.{numel_of, block_of}
use Rattle.judges.specs.Judges.{record_finite, three_finite, wide_finite}
use Rattle.judges.specs.Refusals.{bad_cone}
use Rattle.cone.specs.Calls.{WideCall}

-- ---- row 2 for one slice and for several: where it does not apply, each has the length that is needed

abbrev pub off : ℕ → ℕ → Bool
off n a = not (eqb a n)

module _ (n : ℕ) where
  pub same_1 : (a : ℕ) → off n a ≡ false → a ≡ n
  same_1 a e = eqb-true a n (not-false _ e)

  pub same_2 : (a b : ℕ) → (off n a || off n b) ≡ false → (a ≡ n) × (b ≡ n)
  same_2 a b e = (same_1 a (or_left (off n a) (off n b) e), same_1 b (or_right (off n a) (off n b) e))

  pub same_3 : (a b c : ℕ) → (off n a || off n b || off n c) ≡ false → (a ≡ n) × (b ≡ n) × (c ≡ n)
  same_3 a b c e =
      let two = same_2 a b (or_left _ (off n c) e) in
      (two.0, two.1, same_1 c (or_right (off n a || off n b) (off n c) e))

  pub same_4 : (a b c d : ℕ) → (off n a || off n b || off n c || off n d) ≡ false → (a ≡ n) × (b ≡ n) × (c ≡ n) × (d ≡ n)
  same_4 a b c d e =
      let three = same_3 a b c (or_left _ (off n d) e) in
      (three.0, three.1, three.2, same_1 d (or_right (off n a || off n b || off n c) (off n d) e))

pub cone_is_ok : (c : Cone) → bad_cone c ≡ false → cone_ok c ≡ true
cone_is_ok c e = not-false _ e

-- ---- what a generalized cone that passes has

module _ (n m : ℕ) (e : List Float) (tolerance : Float) (h : wide_ok n m e tolerance ≡ true) where
  abbrev dims : (((leb 1 n && leb n 32) && leb 1 m) && leb m 32) ≡ true
  unfolding wide_ok
  dims = and_left _ (all_of exponent_ok (take n e)) (and_left _ (sum_ok (take n e) tolerance) h)

  pub dim1_at-most : n ≤ 32
  dim1_at-most = leb-true n 32 (and_right (leb 1 n) _ (and_left _ (leb 1 m) (and_left _ (leb m 32) dims)))

  pub dim2_at-most : m ≤ 32
  dim2_at-most = leb-true m 32 (and_right ((leb 1 n && leb n 32) && leb 1 m) (leb m 32) dims)

-- ---- what is judged, by kind

module _ (c : Cone) where
  abbrev tolerance : Float
  tolerance = tolerance_of c.rule

  pub cone_wide : c.kind ≡ 3 → cone_ok c ≡ (rule_ok c.rule && wide_ok c.dim1 c.dim2 c.exps tolerance)
  unfolding cone_ok cone_ok_within
  cone_wide e = simp (eq-eqb _ _ e)

  pub cone_3d : (c.kind ≡ 3 → ⊥) → cone_ok c ≡ (rule_ok c.rule && three_ok c.kind (at c.exps 0))
  unfolding cone_ok cone_ok_within
  cone_3d e = simp (ne_eqb _ _ e)

  pub wide_passes : cone_ok c ≡ true → c.kind ≡ 3 → wide_ok c.dim1 c.dim2 c.exps tolerance ≡ true
  wide_passes h e = and_right (rule_ok c.rule) _ (sym (cone_wide e) ∙ h)

module _ (s : Scaling) where
  pub record_wide : s.cone.kind ≡ 3 → record_finite s ≡ wide_finite s.wide s.cone.dim1 s.cone.dim2
  unfolding record_finite
  record_wide e = simp (eq-eqb _ _ e)

  pub record_3d : (s.cone.kind ≡ 3 → ⊥) → record_finite s ≡ three_finite s.three
  unfolding record_finite
  record_3d e = simp (ne_eqb _ _ e)

-- ---- the lengths of a point and of a block by kind

module _ (c : Cone) where
  pub numel_wide : c.kind ≡ 3 → numel_of c ≡ c.dim1 + c.dim2
  unfolding numel_of
  numel_wide e = simp (eq-eqb _ _ e)

  pub numel_3d : (c.kind ≡ 3 → ⊥) → numel_of c ≡ 3
  unfolding numel_of
  numel_3d e = simp (ne_eqb _ _ e)

  pub block_wide : c.kind ≡ 3 → block_of c ≡ c.dim1 + c.dim2
  unfolding block_of
  block_wide e = simp (eq-eqb _ _ e)

  pub block_3d : (c.kind ≡ 3 → ⊥) → block_of c ≡ 6
  unfolding block_of
  block_3d e = simp (ne_eqb _ _ e)

small : (c : Cone) (b : Bool) → eqb c.kind 3 ≡ b → cone_ok c ≡ true → cond b (c.dim1 + c.dim2) 3 ≤ 64
small c true e k =
    let w = wide_passes c k (eqb-true _ _ e) in omega (arith, dim1_at-most _ _ _ _ w, dim2_at-most _ _ _ _ w)
small c false e k = omega arith

pub numel_at_most : (c : Cone) → cone_ok c ≡ true → numel_of c ≤ 64
unfolding numel_of
numel_at_most c k = small c (eqb c.kind 3) refl k

-- what is cut from an array for a slice that is no longer
pub cut : (n m : ℕ) (ans : List Float) {sent : List Float} → n ≤ m → length ans ≡ m → sent ≡ take n ans → length sent ≡ n
cut n m ans h l e = ap length e ∙ length-take-le n ans (omega arith)

pub wide_call : (c : Cone) (z : List Float) → cone_ok c ≡ true → length z ≡ numel_of c → WideCall c z
wide_call c z k l = record {
  dims = λ e. (dim1_at-most _ _ _ _ (wide_passes c k e), dim2_at-most _ _ _ _ (wide_passes c k e));
  sized = λ e. l ∙ numel_wide c e;
}

-- ---- the exponents in use, cut from the 32 places

pub used_at_most : (n : ℕ) (exps : List Float) {α : List Float} → length exps ≡ 32 → α ≡ take n exps → length α ≤ 32
used_at_most n exps l e = omega (arith, ap length e ∙ length-take n exps)

pub used_length : (n : ℕ) (exps : List Float) {α : List Float} → length exps ≡ 32 → n ≤ 32 → α ≡ take n exps → length α ≡ n
used_length n exps l h e = cut n 32 exps h l e

pub wide_fits : (c : Cone) (z : List Float) {α : List Float} → WideCall c z → c.kind ≡ 3 → length c.exps ≡ 32
    → α ≡ take c.dim1 c.exps
    → (length α ≤ 32) × (length z ≤ length α + 32)
wide_fits c z w k l e =
    let n = used_length c.dim1 c.exps l (w.dims k).0 e in
    (omega (arith, n, (w.dims k).0), omega (arith, n, (w.dims k).1, w.sized k))
