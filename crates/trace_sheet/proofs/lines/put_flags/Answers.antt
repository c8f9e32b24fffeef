-- `put_flags` meets its contract. The loop's invariant: writing the lines that are left gives what the call is to leave, and no line was
-- longer than 64 bytes. Assumes nothing.
use Prim.Native.Nat.{◌+◌, ◌<◌}
use native.Mathlib.Omega.{arith}
use lib.ListN.{length, get_or}
use Rattle.trace_sheet.specs.lines.Text.{flag_line, skipped_lines}
use Rattle.trace_sheet.proofs.lines.Writing.{Wrote, flag_most}
use Rattle.trace_sheet.proofs.lines.Lines.{begun, turned, done, left, flags_here, flags_none}
use Rattle.trace_sheet.proofs.lines.put_flags.Goals as goal

pub put_flag-at-requires : goal.put_flag-at-requires
put_flag-at-requires c =
    omega (arith, c.loop-i.invariant.1, c.loop-i.invariant.2.all, c.requires.0)

pub loop-i-preserved : goal.loop-i-preserved
loop-i-preserved c =
    let l = c.loop-i in
    let a = c.args in
    let flags = a.flags.now in
    let early : l.i < length flags = omega arith in
    let line = flag_line (l.i + 1) (get_or flags l.i 0) in
    let wrote : Wrote l.text c.put_flag-at.new.text l.at c.put_flag-at.result line = c.put_flag-at.ensures in (
      omega arith,
      omega (arith, wrote.0, flag_most (l.i + 1) (get_or flags l.i 0), l.invariant.1),
      turned a.text.now l.text c.put_flag-at.new.text 0 l.at c.put_flag-at.result (skipped_lines 1 flags)
          line (left flags (l.i + 1)) (left flags l.i) l.invariant.2 wrote c.put_flag-at.auto.text
          (flags_here flags l.i early),
    )

pub returns : goal.returns
returns c =
    let l = c.loop-i in
    let a = c.args in
    let flags = a.flags.now in
    done a.text.now l.text 0 l.at (skipped_lines 1 flags) (left flags l.i) l.invariant.2 (flags_none flags l.i (omega arith))

pub loop-i-init : goal.loop-i-init
loop-i-init c = (omega arith, omega arith, begun c.args.text.now 0 (skipped_lines 1 c.args.flags.now))
