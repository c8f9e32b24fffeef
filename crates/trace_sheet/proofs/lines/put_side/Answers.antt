-- `put_side` meets its contract: line behind line. Assumes nothing.
use mathlib.Core.List.{◌++◌}
use Prim.Native.Nat.{◌+◌, ◌≤◌}
use native.Mathlib.Omega.{arith}
use lib.ListN.{get_or}
use Rattle.octets.specs.lines.Lines.{ascii, line_of}
use Rattle.trace_sheet.specs.lines.Text.{name_of, exp_lines, most_line, side_text}
use Rattle.trace_sheet.proofs.lines.Writing.{and_then, named-most}
use Rattle.trace_sheet.proofs.lines.Lines.{exps_most}
use Rattle.trace_sheet.proofs.lines.put_side.Goals as goal

pub put_named-third-requires : goal.put_named-third-requires
put_named-third-requires c =
    let records_low : c.put_named-second.result ≤ c.args.place + 64 =
    let a = c.args in omega (arith, c.put_named-second.ensures.0, named-most a.primal (ascii "records ") a.records (omega arith)) in
    (omega (arith, records_low, c.requires.0), omega arith)

pub put_exps-fourth-requires : goal.put_exps-fourth-requires
put_exps-fourth-requires c =
    let records_low : c.put_named-second.result ≤ c.args.place + 64 =
    let a = c.args in omega (arith, c.put_named-second.ensures.0, named-most a.primal (ascii "records ") a.records (omega arith)) in
    let zero_low : c.put_named-third.result ≤ c.args.place + 128 =
    let a = c.args in let n = get_or a.row.now 0 0 in omega (
      arith,
      records_low,
      c.put_named-third.ensures.0,
      named-most a.primal
          (ascii "zero ") n (omega arith),
    ) in
    (omega (arith, zero_low, c.requires.0), c.requires.1)

pub put_named-fifth-requires : goal.put_named-fifth-requires
put_named-fifth-requires c =
    let records_low : c.put_named-second.result ≤ c.args.place + 64 =
    let a = c.args in omega (arith, c.put_named-second.ensures.0, named-most a.primal (ascii "records ") a.records (omega arith)) in
    let zero_low : c.put_named-third.result ≤ c.args.place + 128 =
    let a = c.args in let n = get_or a.row.now 0 0 in omega (
      arith,
      records_low,
      c.put_named-third.ensures.0,
      named-most a.primal
          (ascii "zero ") n (omega arith),
    ) in
    let exps_low : c.put_exps-fourth.result ≤ c.args.place + 131072 =
    let a = c.args in omega (arith, zero_low, c.put_exps-fourth.ensures.0, exps_most a.primal a.row.now 2046) in
    (omega (arith, exps_low, c.requires.0), omega arith)

pub put_most-requires : goal.put_most-requires
put_most-requires c =
    let records_low : c.put_named-second.result ≤ c.args.place + 64 =
    let a = c.args in omega (arith, c.put_named-second.ensures.0, named-most a.primal (ascii "records ") a.records (omega arith)) in
    let zero_low : c.put_named-third.result ≤ c.args.place + 128 =
    let a = c.args in let n = get_or a.row.now 0 0 in omega (
      arith,
      records_low,
      c.put_named-third.ensures.0,
      named-most a.primal
          (ascii "zero ") n (omega arith),
    ) in
    let exps_low : c.put_exps-fourth.result ≤ c.args.place + 131072 =
    let a = c.args in omega (arith, zero_low, c.put_exps-fourth.ensures.0, exps_most a.primal a.row.now 2046) in
    let subnormal_low : c.put_named-fifth.result ≤ c.args.place + 131136 =
    let a = c.args in let n = get_or a.row.now 1 0 in omega (
      arith,
      exps_low,
      c.put_named-fifth.ensures.0,
      named-most a.primal
          (ascii "subnormal ") n (omega arith),
    ) in
    omega (
      arith,
      subnormal_low,
      c.requires.0,
    )

pub returns : goal.returns
unfolding side_text
returns c =
    let a = c.args in
    let b = a.text.now in
    let row = a.row.now in
    let one = line_of (name_of a.primal ++ ascii "records ") a.records in
    let two = line_of (name_of a.primal ++ ascii "zero ") (get_or row 0 0) in
    let three = exp_lines a.primal row 2046 in
    let four = line_of (name_of a.primal ++ ascii "subnormal ") (get_or row 1 0) in
    let to_two =
    and_then b c.put_named-second.new.text c.put_named-third.new.text a.place c.put_named-second.result c.put_named-third.result one two
    c.put_named-second.ensures c.put_named-third.ensures in
    let to_three =
    and_then b c.put_named-third.new.text c.put_exps-fourth.new.text a.place c.put_named-third.result c.put_exps-fourth.result
    (one ++ two) three
    to_two c.put_exps-fourth.ensures in
    let to_four =
    and_then b c.put_exps-fourth.new.text c.put_named-fifth.new.text a.place c.put_exps-fourth.result c.put_named-fifth.result
    ((one ++ two) ++ three) four to_three c.put_named-fifth.ensures in
    and_then b c.put_named-fifth.new.text c.put_most.new.text a.place c.put_named-fifth.result c.put_most.result
    (((one ++ two) ++ three) ++ four) (most_line a.primal a.largest) to_four c.put_most.ensures
