-- `filled_by_three` meets its contract: after i turns the first i numbers are written, and what is left of the slices begins at place i.
-- Assumes nothing.
use Rattle.std.proofs.Common.{◌≡◌, ◌≤◌, length, take, drop}
use Rattle.std.proofs.lemmas.List.Edits.{sets}
use lib.Ieee.{Float}
use Rattle.cone.specs.Points.{zip_three}
use Rattle.cone.proofs.places.filled_by_three.Given as goal

abbrev pub invariant-loop-i : goal.invariant-loop-i
invariant-loop-i g l =
    let i = l.i-iterator.count in
    (goal.iterator-loop-i g).can_next l.i-iterator
    × (goal.iterator-loop-i g).is_finite l.i-iterator
    × (l.i-iterator.iter.a.a.rest.now ≡ drop i l.xs)
    × (l.i-iterator.iter.a.b.rest.now ≡ drop i l.ys)
    × (l.i-iterator.iter.b.rest.now ≡ drop i l.zs)
    × (i ≤ length l.xs)
    × (i ≤ length l.ys)
    × (i ≤ length l.zs)
    × ((h : Float → Float → Float → Float) → ((x y z w : Float) → goal.F-post g l.f x y z w → w ≡ h x y z)
    → l.out ≡ sets l.initial.out 0 (take i (zip_three h l.xs l.ys l.zs)))
