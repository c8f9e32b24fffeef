-- `shape_at` meets its contract: each number is read once. Assumes nothing.
use Rattle.trace_layout.specs.pieces.Shapes.{shape_at}
use Rattle.trace_layout.proofs.pieces.layout.shape_at.Goals as goal

pub returns : goal.returns
unfolding shape_at
returns c =
    rw (
      c.size_for-size.ensures,
      c.u32_at-flag.ensures,
      c.flag_place.ensures,
      c.u32_at-dim2.ensures,
      c.u32_at-dim1.ensures,
      c.u32_at-kind.ensures,
    )
