-- `steps` meets its contract: steps and counts stand at the record's end. Assumes nothing.
use Rattle.trace.proofs.value.Assembled.{long, steps_read}
use native.Mathlib.Omega.{arith}
use Rattle.trace.proofs.value.Found.steps.Goals as goal

pub overflow_sub-size : goal.overflow_sub-size
overflow_sub-size c = let f = c.args.self in omega (arith, long f.edition f.bytes.now f.shape f.read)

pub overflow_sub-size-2 : goal.overflow_sub-size-2
overflow_sub-size-2 c = let f = c.args.self in omega (arith, long f.edition f.bytes.now f.shape f.read)

pub overflow_sub-size-3 : goal.overflow_sub-size-3
overflow_sub-size-3 c = let f = c.args.self in omega (arith, long f.edition f.bytes.now f.shape f.read)

pub overflow_sub-size-4 : goal.overflow_sub-size-4
overflow_sub-size-4 c = let f = c.args.self in omega (arith, long f.edition f.bytes.now f.shape f.read)

pub returns : goal.returns
returns c =
    let f = c.args.self in
    steps_read f.edition f.bytes.now f.shape f.read _ _ _ _
    c.f64_at-dualstep.ensures c.u32_at-dualcount.ensures c.f64_at-primalstep.ensures c.u32_at-primalcount.ensures
