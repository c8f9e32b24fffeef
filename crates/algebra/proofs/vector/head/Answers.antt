-- `head` meets its contract: a prefix that fits is cut, one that does not is the whole. Assumes nothing.
use Rattle.std.proofs.Common.{sym, arith, length-take-le, take_all}
use Rattle.algebra.proofs.vector.head.Goals as goal

pub slice_bounds-result-end : goal.slice_bounds-result-end
slice_bounds-result-end c = sym (length-take-le _ _ c.if-n-xs.true)

pub returns-else-n-xs : goal.returns-else-n-xs
returns-else-n-xs c = sym (take_all c.args.n c.args.xs.now (omega arith))
