-- `three_ok` asks the test of the kind. Assumes nothing.
use Rattle.std.proofs.Common.{◌≡◌, arith}
use borrow.Author.Tests.{ne_eqb}
use Rattle.judges.specs.cone_judge.Cones.{three_ok}
use Rattle.judges.proofs.cone_judge.three_ok.Goals as goal

pub returns-in-1 : goal.returns-in-1
unfolding three_ok
returns-in-1 c = simp c.in-1.is

pub returns-in-2 : goal.returns-in-2
unfolding three_ok
returns-in-2 c = simp c.in-2.is c.power_ok.ensures

pub returns-in_default : goal.returns-in_default
unfolding three_ok
returns-in_default c =
    let not_1 : c.args.kind ≡ 1 → ⊥ = omega arith in
    let not_2 : c.args.kind ≡ 2 → ⊥ = omega arith in
    simp (ne_eqb _ _ not_1, ne_eqb _ _ not_2)
