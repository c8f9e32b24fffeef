-- `put_zipped` meets its contract: after i turns the first i numbers are written, and what is left of both slices begins at place i.
-- Assumes nothing.
use Rattle.std.proofs.Common.{◌≡◌, ◌≤◌, length, take, drop}
use Rattle.std.proofs.lemmas.List.Edits.{sets}
use mathlib.Core.List.{zip_with}
use lib.Ieee.{Float}
use Rattle.cone.proofs.places.put_zipped.Given as goal

abbrev pub invariant-loop-i : goal.invariant-loop-i
invariant-loop-i g l =
    let i = l.i-iterator.count in
    (goal.iterator-loop-i g).can_next l.i-iterator
    × (goal.iterator-loop-i g).is_finite l.i-iterator
    × (l.i-iterator.iter.a.rest.now ≡ drop i l.xs)
    × (l.i-iterator.iter.b.rest.now ≡ drop i l.ys)
    × (i ≤ length l.xs)
    × (i ≤ length l.ys)
    × ((h : Float → Float → Float) → ((x y z : Float) → goal.F-post g l.f x y z → z ≡ h x y)
    → l.out ≡ sets l.initial.out l.n (take i (zip_with h l.xs l.ys)))
