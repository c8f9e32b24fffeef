-- `put_most` meets its contract: without records nothing, and else the line's parts one behind the other. Assumes nothing.
use mathlib.Core.Path.{refl}
use mathlib.Core.List.{◌++◌}
use Prim.Native.Nat.{◌+◌, ◌-◌, ◌≤◌}
use native.Mathlib.Omega.{arith}
use lib.ListN.{length-append}
use borrow.Author.Tests.{eq-eqb, ne_eqb}
use Rattle.octets.specs.decimal.Decimal.{decimal_of}
use Rattle.octets.proofs.decimal.Digits.{length_decimal}
use Rattle.octets.specs.lines.Lines.{ascii, line_of}
use Rattle.trace_sheet.specs.lines.Text.{name_of, most_line}
use Rattle.trace_sheet.proofs.lines.Writing.{Wrote, and_then, wrote_as, line_behind, name_most}
use Rattle.trace_sheet.proofs.lines.put_most.Goals as goal

pub returns-then-largest-eq0 : goal.returns-then-largest-eq0
unfolding most_line
returns-then-largest-eq0 c = rw (eq-eqb c.args.largest.size 0 c.if-largest-eq0.true) (omega arith, refl)

pub put_part-third-requires : goal.put_part-third-requires
put_part-third-requires c =
    let name_low : c.put_name-second.result ≤ c.args.place + 7 = omega (arith, c.put_name-second.ensures.0, name_most c.args.primal) in
    omega (arith, name_low, c.requires)

pub put_part-fourth-requires : goal.put_part-fourth-requires
put_part-fourth-requires c =
    let name_low : c.put_name-second.result ≤ c.args.place + 7 = omega (arith, c.put_name-second.ensures.0, name_most c.args.primal) in
    let wrote_tests : Wrote c.put_name-second.new.text c.put_part-third.new.text c.put_name-second.result c.put_part-third.result
    (ascii "most " ++ decimal_of (c.args.largest.size - 1)) =
    c.put_part-third.ensures in
    let tests_low : c.put_part-third.result ≤ c.args.place + 32 =
    let n = c.args.largest.size - 1 in omega (
      arith,
      name_low,
      wrote_tests.0,
      length-append (ascii "most ")
          (decimal_of n),
      length_decimal 20 n,
    ) in
    omega (arith, tests_low, c.requires)

pub put_line-requires : goal.put_line-requires
put_line-requires c =
    let name_low : c.put_name-second.result ≤ c.args.place + 7 = omega (arith, c.put_name-second.ensures.0, name_most c.args.primal) in
    let wrote_tests : Wrote c.put_name-second.new.text c.put_part-third.new.text c.put_name-second.result c.put_part-third.result
    (ascii "most " ++ decimal_of (c.args.largest.size - 1)) =
    c.put_part-third.ensures in
    let wrote_file : Wrote c.put_part-third.new.text c.put_part-fourth.new.text c.put_part-third.result c.put_part-fourth.result
    (ascii " file " ++ decimal_of c.args.largest.file) =
    c.put_part-fourth.ensures in
    let tests_low : c.put_part-third.result ≤ c.args.place + 32 =
    let n = c.args.largest.size - 1 in omega (
      arith,
      name_low,
      wrote_tests.0,
      length-append (ascii "most ")
          (decimal_of n),
      length_decimal 20 n,
    ) in
    let file_low : c.put_part-fourth.result ≤ c.args.place + 58 =
    let n = c.args.largest.file in omega (
      arith,
      tests_low,
      wrote_file.0,
      length-append (ascii " file ")
          (decimal_of n),
      length_decimal 20 n,
    ) in
    omega (arith, file_low, c.requires)

pub returns : goal.returns
unfolding most_line
returns c =
    let wrote_tests : Wrote c.put_name-second.new.text c.put_part-third.new.text c.put_name-second.result c.put_part-third.result
    (ascii "most " ++ decimal_of (c.args.largest.size - 1)) =
    c.put_part-third.ensures in
    let wrote_file : Wrote c.put_part-third.new.text c.put_part-fourth.new.text c.put_part-third.result c.put_part-fourth.result
    (ascii " file " ++ decimal_of c.args.largest.file) =
    c.put_part-fourth.ensures in
    let a = c.args in
    let b = a.text.now in
    let name = name_of a.primal in
    let tests = ascii "most " ++ decimal_of (a.largest.size - 1) in
    let file = ascii " file " ++ decimal_of a.largest.file in
    let to_tests =
    and_then b c.put_name-second.new.text c.put_part-third.new.text a.place c.put_name-second.result c.put_part-third.result name tests
    c.put_name-second.ensures wrote_tests in
    let to_file =
    and_then b c.put_part-third.new.text c.put_part-fourth.new.text a.place c.put_part-third.result c.put_part-fourth.result
    (name ++ tests) file
    to_tests wrote_file in
    rw (ne_eqb a.largest.size 0 c.if-largest-eq0.false)
    (wrote_as b c.put_line.new.bytes a.place c.put_line.result
    (line_behind ((name ++ tests) ++ file) (ascii " at ") a.largest.at)
    (and_then b c.put_part-fourth.new.text c.put_line.new.bytes a.place c.put_part-fourth.result c.put_line.result
    ((name ++ tests) ++ file) (line_of (ascii " at ") a.largest.at) to_file c.put_line.ensures))
