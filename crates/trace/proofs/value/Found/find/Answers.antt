-- `find` meets its contract: what the reader finds is laid out, with the shape that was read. Assumes nothing.
use mathlib.Core.Path.{sym, ◌∙◌}
use lib.ListN.{drop}
use Rattle.trace_layout.proofs.pieces.Shapes.{record_is_laid}
use Rattle.trace.proofs.value.Found.find.Goals as goal

pub invariant_of-result : goal.invariant_of-result
invariant_of-result c =
    let a = c.args in
    let is = record_is_laid a.edition (drop a.at a.bytes.now) c.in_ok-shape.shape (sym c.current_in.ensures ∙ c.in_ok-shape.was) in
    record { laid = rw c.behind-bytes.ensures is.0; read = rw c.behind-bytes.ensures is.1 }
