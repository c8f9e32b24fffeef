-- `move_down` meets its contract. The loop's invariant: that of `gather`, and the bytes from the next new place on are as they were, where
-- every piece lies that is left. The measure is the count of pieces left. Assumes nothing.
use mathlib.Core.Path.{◌≡◌, refl, ap, ◌∙◌}
use mathlib.Core.List.{List}
use Prim.Native.Nat.{ℕ, ◌+◌, ◌≤◌}
use native.Mathlib.Omega.{arith}
use lib.ListN.{length, take, drop, get_or}
use lib.Seq.{sets}
use Rattle.trace_thin.specs.firsts.Pieces.{piece_at}
use Rattle.trace_thin.proofs.firsts.Pieces.{size_inside}
use Rattle.trace_thin.proofs.firsts.Moving.{moving, place_read, all_moved, all_listed, downwards, from_inside, moved_down}
use Rattle.trace_thin.proofs.firsts.move_down.Goals as goal

pub bounds-places-j-in-loop-j : goal.bounds-places-j-in-loop-j
bounds-places-j-in-loop-j c = let m = c.loop-j.invariant.moved in omega (arith, m.room, m.fits)

pub overflow_add-end : goal.overflow_add-end
overflow_add-end c =
    let out : List ℕ = c.loop-j.bytes in
    let from : ℕ = get_or c.loop-j.places c.loop-j.j 0 in
    let read : from ≡ get_or c.args.places.now c.loop-j.j 0 = place_read _ _ _ _ _ _ _ _ c.loop-j.invariant.moved (omega arith) in
    let down : c.loop-j.end ≤ from = omega (arith, read, downwards _ _ _ _ _ _ _ c.loop-j.invariant (omega arith)) in
    let inside : from + c.size_at-n.result ≤ length out =
    omega (
      arith,
      c.size_at-n.ensures,
      size_inside out from (omega (
        arith,
        read,
        from_inside _ _ _ _ _ _ _ c.loop-j.invariant
            (omega arith),
      )),
    ) in
    omega (arith, down, inside, c.loop-j.invariant.moved.same_size)

pub loop-j-preserved : goal.loop-j-preserved
loop-j-preserved c =
    let out : List ℕ = c.loop-j.bytes in
    let from : ℕ = get_or c.loop-j.places c.loop-j.j 0 in
    let read : from ≡ get_or c.args.places.now c.loop-j.j 0 = place_read _ _ _ _ _ _ _ _ c.loop-j.invariant.moved (omega arith) in
    let n = c.size_at-n.result in
    moved_down _ _ _ _ _ _ _ c.loop-j.invariant (omega arith) _ n
    (c.size_at-n.ensures ∙ ap (λ (k : ℕ). length (piece_at out k)) read)
    (c.slide.ensures ∙ ap (λ (k : ℕ). sets out c.loop-j.end (take n (drop k out))) read)

pub returns : goal.returns
returns c =
    let m = c.loop-j.invariant.moved in
    (all_moved _ _ _ _ _ _ _ _ m (omega arith), all_listed _ _ _ _ _ _ _ _ m (omega arith))

pub loop-j-init : goal.loop-j-init
loop-j-init c = record { moved = moving _ _ _ _ c.requires.0; unwritten = refl; ahead = c.requires.1 }

pub bounds-places-j : goal.bounds-places-j
bounds-places-j c = let m = c.loop-j.invariant.moved in omega (arith, m.room, m.fits)

pub slide-requires : goal.slide-requires
slide-requires c =
    let out : List ℕ = c.loop-j.bytes in
    let from : ℕ = get_or c.loop-j.places c.loop-j.j 0 in
    let read : from ≡ get_or c.args.places.now c.loop-j.j 0 = place_read _ _ _ _ _ _ _ _ c.loop-j.invariant.moved (omega arith) in
    let down : c.loop-j.end ≤ from = omega (arith, read, downwards _ _ _ _ _ _ _ c.loop-j.invariant (omega arith)) in
    let inside : from + c.size_at-n.result ≤ length out =
    omega (
      arith,
      c.size_at-n.ensures,
      size_inside out from (omega (
        arith,
        read,
        from_inside _ _ _ _ _ _ _ c.loop-j.invariant
            (omega arith),
      )),
    ) in
    (down, inside)
