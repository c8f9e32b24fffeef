-- `dot` meets its contract: after i turns the loop holds the sum of the first i products. Assumes nothing.
use Rattle.std.proofs.Common.{arith}
use lib.Ieee.{nan}
use Rattle.std.proofs.lemmas.List.{length-append}
use Rattle.std.proofs.lemmas.Slice.Zip.{zip_turn, zip_end}
use Rattle.arith.proofs.Turns.{iter-none, iter-next, iter_end}
use Rattle.algebra.specs.Vectors.{dot_of}
use Rattle.algebra.proofs.vector.dot.Goals as goal

pub loop-x-init : goal.loop-x-init
loop-x-init c = iter-none _ _

pub loop-x-preserved : goal.loop-x-preserved
loop-x-preserved c =
    let a = c.args in
    let t = zip_turn a.xs.now a.ys.now _ _ _ c.next.new.self _ (cc) (cc) c.loop-x.yielded_by _ c.in-Some.is c.next.ensures.steps in
    rw (length-append, t.2 nan, t.3 nan) (iter-next _ _ _ c.loop-x.invariant)

pub returns : goal.returns
unfolding dot_of
returns c =
    let a = c.args in
    let n = zip_end a.xs.now a.ys.now _ _ _ c.next.new.self _ (cc) (cc) c.loop-x.yielded_by c.in-None.is c.next.ensures.steps in
    iter_end _ _ _ _ c.loop-x.invariant (omega (arith, n)) (omega (arith, n))
