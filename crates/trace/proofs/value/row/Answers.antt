-- `row` meets its contract. The loop's invariant: the array after i turns. Assumes nothing.
use Prim.Native.Nat.{◌<◌}
use native.Mathlib.Omega.{arith}
use Rattle.trace.proofs.value.Rows.{row-none, row_more, row_all}
use Rattle.trace.proofs.value.row.Goals as goal

pub loop-i-init : goal.loop-i-init
loop-i-init g c = (omega arith, row-none g.row.N c.args.n c.args.bytes.now)

pub loop-i-preserved : goal.loop-i-preserved
loop-i-preserved g c =
    let l = c.loop-i in
    let more : l.i < c.args.n = omega arith in
    (omega arith, row_more g.row.N c.args.n c.args.bytes.now l.i _ _ more c.requires l.invariant.1 c.f64_at.ensures)

pub returns : goal.returns
returns g c =
    let l = c.loop-i in
    row_all g.row.N c.args.n c.args.bytes.now l.i _ l.invariant.0 (omega arith) l.invariant.1
