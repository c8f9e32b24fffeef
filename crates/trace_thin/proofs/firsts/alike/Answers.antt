-- `alike` meets its contract: other numbers are those of other rows, and equal numbers say nothing. Assumes nothing.
use mathlib.Core.Path.{sym, ap, ◌∙◌}
use Rattle.octets.specs.equal_bytes.Equal.{equal_bytes}
use Rattle.trace_thin.specs.firsts.Pieces.{piece_at}
use Rattle.trace_thin.proofs.firsts.Seeking.{other_number}
use Rattle.trace_thin.proofs.firsts.alike.Goals as goal

pub returns-then-other-number : goal.returns-then-other-number
returns-then-other-number c =
    let a = c.args in
    sym (other_number a.piece.now (piece_at a.bytes.now a.place) a.number a.other c.requires.0 c.requires.1 c.if-other-number.true)

pub returns : goal.returns
returns c =
    let a = c.args in
    c.same.ensures ∙ ap (equal_bytes a.piece.now) c.piece_at.ensures
