-- `tail` meets its contract: what is left behind the prefix, or nothing. Assumes nothing.
use Rattle.std.proofs.Common.{◌-◌, length, drop, sym, arith, length-drop, drop_of_length-le, take_all}
use Rattle.algebra.proofs.vector.tail.Goals as goal

pub returns-then-n-xs : goal.returns-then-n-xs
returns-then-n-xs c =
    let a = c.args in
    take_all (length a.xs.now - a.n) (drop a.n a.xs.now) (simp length-drop (omega arith))

pub returns-else-n-xs : goal.returns-else-n-xs
returns-else-n-xs c = sym (drop_of_length-le c.args.xs.now {i = c.args.n} (omega arith))
