-- `slide` meets its contract. The loop's invariant: writing the bytes that are left gives what the call is to leave, and what lies behind
-- is as it was. The measure is their count. Assumes nothing.
use native.Mathlib.Omega.{arith}
use Rattle.trace_thin.proofs.firsts.Sliding.{sliding, slid, slid_all}
use Rattle.trace_thin.proofs.firsts.slide.Goals as goal

pub loop-i-preserved : goal.loop-i-preserved
loop-i-preserved c =
    slid _ _ _ _ _ _ c.loop-i.invariant (omega arith) c.requires.0 c.requires.1

pub returns : goal.returns
returns c = slid_all _ _ _ _ _ _ c.loop-i.invariant (omega arith)

pub loop-i-init : goal.loop-i-init
loop-i-init c = sliding _ _ _ _

pub overflow_add-bytes : goal.overflow_add-bytes
overflow_add-bytes c = omega (arith, c.well_formed)

pub bounds-bytes-from : goal.bounds-bytes-from
bounds-bytes-from c = omega (arith, c.loop-i.invariant.same_size)

pub overflow_add-bytes-in-loop-i : goal.overflow_add-bytes-in-loop-i
overflow_add-bytes-in-loop-i c = omega (arith, c.well_formed)

pub bounds-bytes-to : goal.bounds-bytes-to
bounds-bytes-to c = omega (arith, c.loop-i.invariant.same_size)
