-- `sum` meets its contract. The loop's invariant: the first i places hold the sum. Assumes nothing.
use Prim.Native.Nat.{◌<◌}
use native.Mathlib.Omega.{arith}
use lib.ListN.{length}
use Rattle.trace_sheet.proofs.rows.Summing.{begun, as_was, turned, done, has_room}
use Rattle.trace_sheet.proofs.rows.sum.Goals as goal

pub overflow_add-row : goal.overflow_add-row
overflow_add-row c =
    let early : c.loop-i.i < length c.args.row.now = omega (arith, c.requires.0) in
    let l = c.loop-i in
    let room = has_room c.args.row.now c.args.more.now l.i c.requires.1 early c.requires.0 in
    omega (arith, room, as_was c.args.row.now c.args.more.now c.requires.0 l.row l.i l.invariant)

pub loop-i-preserved : goal.loop-i-preserved
loop-i-preserved c =
    let early : c.loop-i.i < length c.args.row.now = omega (arith, c.requires.0) in
    let l = c.loop-i in
    turned c.args.row.now c.args.more.now c.requires.0 l.row l.i l.invariant early

pub returns : goal.returns
returns c =
    let l = c.loop-i in
    done c.args.row.now c.args.more.now c.requires.0 l.row l.i l.invariant (omega (arith, c.requires.0))

pub loop-i-init : goal.loop-i-init
loop-i-init c = begun c.args.row.now c.args.more.now c.requires.0

pub bounds-row-i : goal.bounds-row-i
bounds-row-i c =
    let early : c.loop-i.i < length c.args.row.now = omega (arith, c.requires.0) in
    omega (arith, early, c.loop-i.invariant.all)

pub bounds-row-i-in-loop-i : goal.bounds-row-i-in-loop-i
bounds-row-i-in-loop-i c =
    let early : c.loop-i.i < length c.args.row.now = omega (arith, c.requires.0) in
    omega (arith, early, c.loop-i.invariant.all)
