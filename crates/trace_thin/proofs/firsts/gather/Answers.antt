-- `gather` meets its contract. The loop's invariant: the pieces that are left, written behind those that were, give what the call is to
-- leave, and the places that are left are as they were. The measure is their count. Assumes nothing.
use mathlib.Core.Path.{◌≡◌, ap, ◌∙◌}
use mathlib.Core.List.{List}
use Prim.Native.Nat.{ℕ, ◌+◌, ◌≤◌}
use native.Mathlib.Omega.{arith}
use lib.ListN.{length, get_or}
use lib.Seq.{sets}
use Rattle.trace_thin.specs.firsts.Pieces.{piece_at}
use Rattle.trace_thin.proofs.firsts.Moving.{moving, place_read, piece_fits, moved, all_moved, all_listed}
use Rattle.trace_thin.proofs.firsts.gather.Goals as goal

pub bounds-places-j-in-loop-j : goal.bounds-places-j-in-loop-j
bounds-places-j-in-loop-j c = let m = c.loop-j.invariant in omega (arith, m.room, m.fits)

pub overflow_add-to : goal.overflow_add-to
overflow_add-to c =
    let b : List ℕ = c.args.bytes.now in
    let places₀ : List ℕ = c.args.places.now in
    let piece_is : c.piece_at-piece.result.now ≡ piece_at b (get_or places₀ c.loop-j.j 0) =
    c.piece_at-piece.ensures ∙ ap (piece_at b) (place_read _ _ _ _ _ _ _ _ c.loop-j.invariant (omega arith)) in
    let has_room : c.loop-j.to + length c.piece_at-piece.result.now ≤ length c.loop-j.output =
    omega (arith, ap length piece_is, piece_fits _ _ _ _ _ _ _ _ c.loop-j.invariant (omega arith) c.requires.1) in
    omega (arith, has_room, c.loop-j.invariant.same_size)

pub loop-j-preserved : goal.loop-j-preserved
loop-j-preserved c =
    let b : List ℕ = c.args.bytes.now in
    let places₀ : List ℕ = c.args.places.now in
    let piece_is : c.piece_at-piece.result.now ≡ piece_at b (get_or places₀ c.loop-j.j 0) =
    c.piece_at-piece.ensures ∙ ap (piece_at b) (place_read _ _ _ _ _ _ _ _ c.loop-j.invariant (omega arith)) in
    moved _ _ _ _ _ _ _ _ c.loop-j.invariant (omega arith) _ _
    (c.copy.ensures ∙ ap (sets c.loop-j.output c.loop-j.to) piece_is) (ap length piece_is)

pub returns : goal.returns
returns c =
    let m = c.loop-j.invariant in
    (all_moved _ _ _ _ _ _ _ _ m (omega arith), all_listed _ _ _ _ _ _ _ _ m (omega arith))

pub loop-j-init : goal.loop-j-init
loop-j-init c = moving _ _ _ _ c.requires.0

pub bounds-places-j : goal.bounds-places-j
bounds-places-j c = let m = c.loop-j.invariant in omega (arith, m.room, m.fits)

pub copy-requires : goal.copy-requires
copy-requires c =
    let b : List ℕ = c.args.bytes.now in
    let places₀ : List ℕ = c.args.places.now in
    let piece_is : c.piece_at-piece.result.now ≡ piece_at b (get_or places₀ c.loop-j.j 0) =
    c.piece_at-piece.ensures ∙ ap (piece_at b) (place_read _ _ _ _ _ _ _ _ c.loop-j.invariant (omega arith)) in
    let has_room : c.loop-j.to + length c.piece_at-piece.result.now ≤ length c.loop-j.output =
    omega (arith, ap length piece_is, piece_fits _ _ _ _ _ _ _ _ c.loop-j.invariant (omega arith) c.requires.1) in
    has_room
