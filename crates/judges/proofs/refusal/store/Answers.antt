-- `store` meets its contract. The loop's invariant: the first i places hold the answer's. The measure is what is left of the slice. Assumes
-- nothing.
use mathlib.Core.Path.{refl}
use native.Mathlib.Omega.{arith}
use lib.Ieee.{nan}
use lib.ListN.{length-set}
use Rattle.arith.proofs.Filling.{fill_more, fill_end}
use Rattle.judges.proofs.refusal.store.Goals as goal

pub loop-i-preserved : goal.loop-i-preserved
loop-i-preserved c =
    let ans = c.args.ans.now in
    let at_i = c.loop-i in (
      omega arith,
      refl,
      simp length-set at_i.invariant.2,
      fill_more at_i.out ans at_i.i _ nan (omega arith) (omega arith) at_i.invariant.3 refl,
    )

pub returns : goal.returns
returns c =
    let at_end = c.loop-i in
    fill_end at_end.out c.args.ans.now at_end.i (omega arith) (omega arith) at_end.invariant.3

pub loop-i-init : goal.loop-i-init
loop-i-init c = (omega arith, refl, refl, refl)
