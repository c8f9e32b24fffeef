-- A call that its rows refuse leaves with their number, one that they let through publishes the rectified numbers. Assumes nothing.
use mathlib.Core.Path.{◌≡◌, ◌∙◌, sym, ap, refl}
use mathlib.Core.List.{List}
use Prim.Native.Nat.{ℕ, ◌≤◌}
use lib.Ieee.{Float}
use lib.ListN.{length, take}
use Rattle.cone.specs.declared.Cone.{Cone}
use Rattle.cone.specs.Points.{padded}
use Rattle.judges.specs.Refusals.{Lent, publish_of, refuse}
use Rattle.cone.proofs.Points.{padded_front}
use Rattle.judges.proofs.Lengths.{cut}
use Rattle.std.proofs.lemmas.Result.{err_from_is_err_and}
use Rattle.cone.proofs.table.Settled.{number_above_0, refused, done}
use Rattle.call_cone.proofs.copies.Lengths.{copy_length}
use Rattle.call_cone.specs.formulas.Rows.{copy_rows}
use Rattle.call_cone.specs.formulas.Equilibration.{rectified_of}
use Rattle.call_cone.specs.formulas.Entries.{rectify_of}
use Rattle.call_cone.proofs.formulas.Places.{same_count}
use borrow.Author.Rules.{rules}
use Rattle.call_cone.proofs.formulas.rectify.Goals as goal

module _ (c : Cone) (δ e : List Float) (r : ℕ) (k : r ≡ copy_rows c (length δ) e) (z : r ≡ 0) where
  let_through : (length e ≡ length δ) × (length e ≤ 64)
  let_through = copy_length c (length δ) e (sym k ∙ z)

  -- what is cut from the 64 places is as long as δ
  as_long : {sent : List Float} (d : List Float) → length d ≡ 64 → sent ≡ take (length e) d → length sent ≡ length δ
  as_long d l h = cut (length e) 64 d let_through.1 l h ∙ let_through.0

  answer : {sent d : List Float} {x : Lent ℕ} → x ≡ publish_of δ sent → sent ≡ take (length e) d → d ≡ padded 64 (rectified_of e)
      → x ≡ rectify_of c δ e
  unfolding rectify_of
  answer {d = d} p h w =
      p ∙ ap (publish_of δ) (h ∙ ap (take (length e)) w ∙ padded_front 64 (rectified_of e) (length e) (same_count e))
      ∙ done _ r _ (refuse δ) k z

pub returns-in_err-copy_rows : goal.returns-in_err-copy_rows
unfolding rectify_of
returns-in_err-copy_rows c =
    let p = err_from_is_err_and c.from_residual.result c.from_residual.ensures.1 in
    rw (p.1, p.2) (refused _ _ _ _ c.in_err-copy_rows.ensures (number_above_0 _))

pub rectified-d-requires : goal.rectified-d-requires
rectified-d-requires c = (copy_length _ _ _ (sym c.in_ok-copy_rows.ensures)).1

pub publish-requires : goal.publish-requires
publish-requires c =
    as_long c.args.cone c.args.delta.now c.args.e.now _ c.in_ok-copy_rows.ensures refl _ (search rules) c.head.ensures

pub returns : goal.returns
returns c =
    answer c.args.cone c.args.delta.now c.args.e.now _ c.in_ok-copy_rows.ensures refl c.publish.ensures c.head.ensures
    c.rectified-d.ensures
