-- The shape of the record at the front of a list of bytes, as the parser hands it back. Definitions only.
use Rattle.std.specs.Prelude.{ℕ, ◌-◌, Bool, cond, ◌&&◌, List, Option, Some, None, eqb, leb, length}
use Rattle.octets.specs.words.Words.{word_at}
use Rattle.trace_layout.specs.declared.pieces.Shape.{Shape}
use Rattle.trace_layout.specs.Records.{step_mark, dual_step_back, primal_step_back}
use Rattle.trace_layout.specs.Records.{kind_at, dim1_at, dim2_at, flag_at, size_at, shape_ok, step_ok, laid_at}

unfoldable pub shape_at : ℕ → List ℕ → Shape
shape_at edition t = record { kind = kind_at t; dim1 = dim1_at t; dim2 = dim2_at t; flag = flag_at edition t; size = size_at edition t }

-- `laid_at` of a shape that was read
unfoldable pub laid_with : List ℕ → Shape → Bool
laid_with t shape =
    leb dual_step_back shape.size
    && (eqb (word_at 4 t 0) step_mark && eqb (word_at 4 t 4) shape.size
    && shape_ok shape.kind shape.dim1 shape.dim2 shape.flag
    && leb shape.size (length t)
    && step_ok (word_at 8 t (shape.size - dual_step_back))
    && step_ok (word_at 8 t (shape.size - primal_step_back)))

-- the record at the front, if one stands there
unfoldable pub found_at : ℕ → List ℕ → Option Shape
found_at edition t = cond (laid_at edition t) (Some (shape_at edition t)) None
