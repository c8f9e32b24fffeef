-- `put` meets its contract. The loop's invariant: writing the bytes that are left gives
-- what the call is to leave. The measure is their number. Assumes nothing.
use mathlib.Core.Path.{◌≡◌, ◌∙◌}
use Prim.Native.Nat.{◌-◌}
use native.Mathlib.Omega.{arith}
use lib.ListN.{length-set}
use Rattle.octets.specs.words.Words.{le}
use Rattle.octets.proofs.words.Loops.{write-turn}
use Rattle.octets.proofs.words.put.Goals as goal

pub loop-i-preserved : goal.loop-i-preserved
loop-i-preserved c = (
  omega arith,
  simp length-set c.loop-i.invariant.1,
  write-turn c.loop-i.bytes c.args.place c.loop-i.i c.args.n
      c.loop-i.y (omega arith) ∙ c.loop-i.invariant.2,
)

pub returns : goal.returns
unfolding le
returns c = let none : c.args.n - c.loop-i.i ≡ 0 = omega arith in rw none at c.loop-i.invariant.2
