-- `place_for` puts together what its calls answer. Assumes nothing.
use Rattle.trace.specs.places.Places.{place_with}
use Rattle.trace.proofs.places.place_for.Goals as goal

pub returns : goal.returns
unfolding place_with
returns c =
    rw (
      c.code-code.ensures,
      c.trace_row.ensures,
      c.has_room-room.ensures,
      c.entry_ok-laid.ensures,
      c.size_for-size.ensures,
      c.open_front-opened.ensures,
    )
