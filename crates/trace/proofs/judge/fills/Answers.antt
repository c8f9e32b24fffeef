-- `fills` meets its contract: the offset is compared with what is left in front of list and trailer. Assumes nothing.
use mathlib.Core.Path.{◌≡◌, sym}
use Prim.Native.Nat.{◌+◌, ◌*◌}
use native.Mathlib.Omega.{arith}
use borrow.Author.Tests.{ne_eqb}
use Rattle.trace.proofs.judge.Walking.{eqb-moved}
use Rattle.trace.proofs.judge.fills.Goals as goal

pub returns-then-n-after : goal.returns-then-n-after
returns-then-n-after c = let a = c.args in sym (ne_eqb (a.list + 8 * a.count + 20) a.n (λ e. omega arith))

pub returns : goal.returns
returns c =
    let a = c.args in
    let sum : a.list + 8 * a.count + 20 ≡ a.list + (8 * a.count + 20) = omega arith in
    rw sum (eqb-moved a.list (8 * a.count + 20) a.n (omega arith))
