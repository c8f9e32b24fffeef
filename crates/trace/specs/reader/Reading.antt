-- What a reader reads. Definitions only.
use Rattle.std.specs.Prelude.{ℕ, ◌+◌, List, Option, Some, None, drop}
use Rattle.trace_layout.specs.declared.pieces.Shape.{Shape}
use Rattle.trace_layout.specs.pieces.Shapes.{found_at}

-- the record of an edition at a place of bytes, whatever they are
abbrev pub found_from : List ℕ → ℕ → ℕ → Option Shape
found_from bs at e = found_at e (drop at bs)

-- the place behind what was found at a place
unfoldable pub behind_found : ℕ → Option Shape → ℕ
behind_found at (Some shape) = at + shape.size
behind_found at None = at

abbrev pub place_after : List ℕ → ℕ → ℕ → ℕ
place_after bs at e = behind_found at (found_from bs at e)
