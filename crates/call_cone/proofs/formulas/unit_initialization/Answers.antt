-- A call that its rows refuse leaves with their number, one that they let through publishes the kind's point twice. Assumes nothing.
use mathlib.Core.Path.{◌≡◌, ◌∙◌, sym, ap, refl}
use mathlib.Core.List.{List}
use Prim.Native.Nat.{ℕ}
use native.Mathlib.Omega.{arith}
use lib.Ieee.{Float}
use lib.ListN.{length, take}
use borrow.Author.Tests.{eq-eqb, ne_eqb}
use Rattle.cone.specs.declared.Cone.{Cone}
use Rattle.judges.specs.Refusals.{LentTwo, publish_two_of, refuse_two}
use Rattle.kinds.specs.Cones.{alpha_of}
use Rattle.kinds.specs.Three as three
use Rattle.kinds.specs.Wide as wide
use Rattle.cone.proofs.AskedKind.{wide_kind, other_kind}
use Rattle.std.proofs.lemmas.Result.{err_from_is_err_and}
use Rattle.cone.proofs.table.Settled.{number_above_0, refused}
use Rattle.judges.proofs.Lengths.{numel_at_most, numel_3d, cut}
use Rattle.cone.proofs.table.Choices.{done_taken, done_left}
use Rattle.call_cone.proofs.formulas.Lengths.{unit_lengths}
use Rattle.call_cone.specs.formulas.Rows.{unit_rows}
use Rattle.call_cone.specs.formulas.Entries.{unit_initialization_of}
use borrow.Author.Rules.{rules}
use Rattle.call_cone.proofs.formulas.unit_initialization.Goals as goal

-- what is cut from the 64 places is as long as both slices
both-cut : (c : Cone) (z s : ℕ) (ans : List Float) {sent : List Float} → unit_rows c z s ≡ 0 → length ans ≡ 64 → sent ≡ take z ans
    → (length sent ≡ z) × (length sent ≡ s)
both-cut c z s ans e l h =
    let u = unit_lengths c z s e in
    let n = cut z 64 ans (omega (arith, numel_at_most c u.0, u.1)) l h in
    (n, n ∙ u.1 ∙ sym u.2)

-- and so are three numbers, where the kind is not 3
both-three : (c : Cone) (z s : ℕ) (sent : List Float) → unit_rows c z s ≡ 0 → (c.kind ≡ 3 → ⊥) → length sent ≡ 3
    → (length sent ≡ z) × (length sent ≡ s)
both-three c z s sent e k l =
    let u = unit_lengths c z s e in
    (l ∙ sym (u.1 ∙ numel_3d c k), l ∙ sym (u.2 ∙ numel_3d c k))

module _ (c : Cone) (z s : List Float) (r : ℕ) (e : r ≡ unit_rows c (length z) (length s)) (n : r ≡ 0) where
  wide_answer : {sent point : List Float} {x : LentTwo ℕ} → c.kind ≡ 3 → x ≡ publish_two_of z s sent sent → sent ≡ take (length z) point
      → point ≡ wide.unit_initialization_of c.exps c.dim1 → x ≡ unit_initialization_of c z s
  unfolding unit_initialization_of
  wide_answer k p h u =
      done_taken _ r _ (refuse_two z s) e n (eq-eqb _ _ k)
      (p ∙ ap (λ (l : List Float). publish_two_of z s l l) (h ∙ ap (take (length z)) u))

  three-answer : {point : List Float} {x : LentTwo ℕ} → (c.kind ≡ 3 → ⊥) → x ≡ publish_two_of z s point point
      → point ≡ three.unit_initialization_of c.kind (alpha_of c) → x ≡ unit_initialization_of c z s
  unfolding unit_initialization_of
  three-answer k p u = done_left _ r _ (refuse_two z s) e n (ne_eqb _ _ k) (p ∙ ap (λ (l : List Float). publish_two_of z s l l) u)

pub returns-in_err-unit_rows : goal.returns-in_err-unit_rows
unfolding unit_initialization_of
returns-in_err-unit_rows c =
    let p = err_from_is_err_and c.from_residual.result c.from_residual.ensures.1 in
    rw (p.1, p.2) (refused _ _ _ _ c.in_err-unit_rows.ensures (number_above_0 _))

pub publish_two-requires : goal.publish_two-requires
publish_two-requires c =
    both-cut _ _ _ _ (sym c.in_ok-unit_rows.ensures) (search rules) c.head-start.ensures

pub returns-then-is_wide : goal.returns-then-is_wide
returns-then-is_wide c =
    wide_answer _ c.args.z.now c.args.s.now _ c.in_ok-unit_rows.ensures refl
    (wide_kind c.is_wide.ensures c.if-is_wide.true)
    c.publish_two.ensures c.head-start.ensures c.unit_initialization-point.ensures

pub publish_two-requires-2 : goal.publish_two-requires-2
publish_two-requires-2 c =
    both-three _ _ _ c.unit_initialization-point-2.result (sym c.in_ok-unit_rows.ensures)
    (other_kind c.is_wide.ensures c.if-is_wide.false) (search rules)

pub returns : goal.returns
returns c =
    three-answer _ c.args.z.now c.args.s.now _ c.in_ok-unit_rows.ensures refl
    (other_kind c.is_wide.ensures c.if-is_wide.false)
    c.publish_two-2.ensures c.unit_initialization-point-2.ensures
