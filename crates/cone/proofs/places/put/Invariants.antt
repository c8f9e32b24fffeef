-- `put` meets its contract: after i turns the first i numbers are written. Assumes nothing.
use Rattle.std.proofs.Common.{◌≡◌, map, take}
use Rattle.std.proofs.lemmas.List.Edits.{sets}
use lib.Ieee.{Float}
use Rattle.cone.proofs.places.put.Given as goal

abbrev pub invariant-loop-i : goal.invariant-loop-i
invariant-loop-i g l =
    (h : Float → Float) → ((x y : Float) → goal.F-post g l.f x y → y ≡ h x) → l.out ≡ sets l.initial.out l.n (take l.i (map h l.xs))
