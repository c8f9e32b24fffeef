-- `seen` meets its contract. The loop's invariant: the pieces that were passed are other ones, so that those that are left decide, and what is
-- left of the numbers is theirs. Assumes nothing.
use mathlib.Core.Path.{◌≡◌}
use mathlib.Core.List.{map}
use Rattle.octets.specs.equal_bytes.Equal.{among, number_of}
use Rattle.trace_thin.specs.firsts.Pieces.{pieces_at}
use Rattle.trace_thin.proofs.firsts.seen.Given as goal

abbrev pub invariant-loop-place : goal.invariant-loop-place
invariant-loop-place l =
    let ahead = l.place-iterator.a.rest.now in
    goal.iterator-loop-place.can_next l.place-iterator
    × goal.iterator-loop-place.is_finite l.place-iterator
    × (l.place-iterator.b.rest.now ≡ map number_of (pieces_at l.bytes ahead))
    × (among l.piece (pieces_at l.bytes ahead) ≡ among l.piece (pieces_at l.bytes l.places))
