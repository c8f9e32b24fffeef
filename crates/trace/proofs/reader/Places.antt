-- A record that a reader finds lies in the bytes. Assumes nothing.
use mathlib.Core.Path.{◌≡◌, ap}
use Prim.Native.Nat.{ℕ, ◌+◌, ◌≤◌}
use mathlib.Core.List.{List}
use native.Mathlib.Omega.{arith}
use lib.ListN.{length, drop}
use Rattle.trace_layout.specs.declared.pieces.Shape.{Shape}
use Rattle.std.specs.Prelude.{true, Some, None}
use Rattle.trace_layout.specs.Records.{laid_at, size_at}
use Rattle.trace_layout.specs.pieces.Shapes.{shape_at}
use Rattle.trace.specs.reader.Reading.{found_from, behind_found, place_after}
use Rattle.trace_layout.proofs.Records.{laid_inside}
use Rattle.trace_layout.proofs.pieces.Shapes.{record_is_laid}

pub found_inside : (bs : List ℕ) (at e : ℕ) (s : Shape) → found_from bs at e ≡ Some s → at + s.size ≤ length bs
unfolding shape_at
found_inside bs at e s h =
    let laid = record_is_laid e (drop at bs) s h in
    omega (arith, ap (λ (x : Shape). x.size) laid.1, laid_inside e at bs laid.0)

-- it is laid out, and of the size that was read
pub found_laid : (bs : List ℕ) (at e : ℕ) (s : Shape) → found_from bs at e ≡ Some s
    → (laid_at e (drop at bs) ≡ true) × (s.size ≡ size_at e (drop at bs))
unfolding shape_at
found_laid bs at e s h = let is = record_is_laid e (drop at bs) s h in (is.0, ap (λ (x : Shape). x.size) is.1)

pub behind_record : (bs : List ℕ) (at e : ℕ) (s : Shape) → found_from bs at e ≡ Some s → at + s.size ≡ place_after bs at e
unfolding behind_found
behind_record bs at e s h = rw h

pub behind_none : (bs : List ℕ) (at e : ℕ) → found_from bs at e ≡ None → at ≡ place_after bs at e
unfolding behind_found
behind_none bs at e h = rw h
