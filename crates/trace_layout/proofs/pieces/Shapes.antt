-- A record that is laid out with the shape that was read is laid out, and what was found says whether one is. Assumes nothing.
use mathlib.Core.Path.{◌≡◌, refl, sym, ap, ◌∙◌}
use Prim.Native.Nat.{ℕ}
use mathlib.Core.Bool.{Bool, true, false}
use mathlib.Core.List.{List}
use native.Mathlib.Omega.{arith}
use lib.Dec.{leb}
use borrow.Author.Tests.{le-leb}
use Rattle.trace_layout.specs.declared.pieces.Shape.{Shape}
use Rattle.std.specs.Prelude.{cond, Some, None}
use Rattle.trace_layout.specs.Records.{kind_at, dim1_at, dim2_at, flag_at, size_at, laid_at}
use Rattle.trace_layout.specs.pieces.Shapes.{shape_at, laid_with, found_at}
use Rattle.trace_layout.proofs.Records.{size-least}

pub laid_with_shape : (e : ℕ) (t : List ℕ) → laid_with t (shape_at e t) ≡ laid_at e t
unfolding laid_with shape_at laid_at
laid_with_shape e t =
    let long : leb 24 (size_at e t) ≡ true =
    le-leb 24 (size_at e t) (omega (arith, size-least e (kind_at t) (dim1_at t) (dim2_at t) (flag_at e t))) in
    rw long

module _ (e : ℕ) (t : List ℕ) (shape : Shape) (read : shape ≡ shape_at e t) (laid : Bool) (tested : laid ≡ laid_with t shape) where
  tested_laid : laid ≡ laid_at e t
  tested_laid = tested ∙ ap (laid_with t) read ∙ laid_with_shape e t

  pub found_record : laid ≡ true → Some shape ≡ found_at e t
  unfolding found_at
  found_record h = rw (sym tested_laid ∙ h, read)

  pub found_none : laid ≡ false → None ≡ found_at e t
  unfolding found_at
  found_none h = rw (sym tested_laid ∙ h)

-- ---- what was found

picked_record : (x : Bool) (s : Shape) (got : Shape) → cond x (Some s) None ≡ Some got → (x ≡ true) × (got ≡ s)
picked_record true s got h = (refl, cc)
picked_record false s got h = let z : ◌≡◌ {A = ℕ} 0 1 = cc in absurd (omega arith)

picked_none : (x : Bool) (s : Shape) → cond x (Some s) None ≡ None → x ≡ false
picked_none true s h = let z : ◌≡◌ {A = ℕ} 0 1 = cc in absurd (omega arith)
picked_none false s h = refl

pub record_is_laid : (e : ℕ) (t : List ℕ) (got : Shape) → found_at e t ≡ Some got → (laid_at e t ≡ true) × (got ≡ shape_at e t)
unfolding found_at
record_is_laid e t got h = picked_record (laid_at e t) (shape_at e t) got h

pub none_is_not : (e : ℕ) (t : List ℕ) → found_at e t ≡ None → laid_at e t ≡ false
unfolding found_at
none_is_not e t h = picked_none (laid_at e t) (shape_at e t) h
