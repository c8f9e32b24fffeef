-- `put_exp` meets its contract: name, exponent and count stand one behind the other. Assumes nothing.
use mathlib.Core.List.{◌++◌}
use native.Mathlib.Omega.{arith}
use Rattle.octets.specs.lines.Lines.{ascii, line_of}
use Rattle.trace_sheet.specs.lines.Text.{name_of, exp_part, exp_line}
use Rattle.trace_sheet.proofs.lines.Writing.{and_then, wrote_as, line_behind, name_most, exp_most}
use Rattle.trace_sheet.proofs.lines.put_exp.Goals as goal

pub put_exponent-third-requires : goal.put_exponent-third-requires
put_exponent-third-requires c =
    omega (arith, c.put_name-second.ensures.0, name_most c.args.primal, c.requires)

pub put_line-requires : goal.put_line-requires
put_line-requires c =
    omega (
      arith,
      c.put_name-second.ensures.0,
      name_most c.args.primal,
      c.put_exponent-third.ensures.0,
      exp_most c.args.field,
      c.requires,
    )

pub returns : goal.returns
unfolding exp_line
returns c =
    let a = c.args in
    let front = name_of a.primal ++ exp_part a.field in
    wrote_as a.text.now c.put_line.new.bytes a.place c.put_line.result (line_behind front (ascii " ") a.count)
    (and_then a.text.now c.put_exponent-third.new.text c.put_line.new.bytes a.place c.put_exponent-third.result c.put_line.result
    front (line_of (ascii " ") a.count)
    (and_then a.text.now c.put_name-second.new.text c.put_exponent-third.new.text a.place c.put_name-second.result
    c.put_exponent-third.result
    (name_of a.primal) (exp_part a.field) c.put_name-second.ensures c.put_exponent-third.ensures)
    c.put_line.ensures)
