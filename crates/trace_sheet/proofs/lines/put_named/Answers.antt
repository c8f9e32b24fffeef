-- `put_named` meets its contract: the line stands behind the name. Assumes nothing.
use native.Mathlib.Omega.{arith}
use Rattle.octets.specs.lines.Lines.{line_of}
use Rattle.trace_sheet.specs.lines.Text.{name_of}
use Rattle.trace_sheet.proofs.lines.Writing.{and_then, wrote_as, line_behind, name_most}
use Rattle.trace_sheet.proofs.lines.put_named.Goals as goal

pub put_line-requires : goal.put_line-requires
put_line-requires c =
    omega (arith, c.put_name-second.ensures.0, name_most c.args.primal, c.requires.0, c.requires.1)

pub returns : goal.returns
returns c =
    let a = c.args in
    let word = a.word.now in
    wrote_as a.text.now c.put_line.new.bytes a.place c.put_line.result (line_behind (name_of a.primal) word a.n)
    (and_then a.text.now c.put_name-second.new.text c.put_line.new.bytes a.place c.put_name-second.result c.put_line.result
    (name_of a.primal) (line_of word a.n) c.put_name-second.ensures c.put_line.ensures)
