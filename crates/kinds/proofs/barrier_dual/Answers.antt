-- `barrier_dual` asks the cone of the kind. Assumes nothing.
use Rattle.std.proofs.Common.{◌≡◌, arith}
use borrow.Author.Tests.{ne_eqb}
use Rattle.kinds.specs.Cones.{barrier_dual_of}
use Rattle.kinds.proofs.barrier_dual.Goals as goal

pub returns-in-1 : goal.returns-in-1
unfolding barrier_dual_of
returns-in-1 c = simp c.in-1.is (simp (← c.three_of.ensures) c.barrier_dual.ensures)

pub returns-in-2 : goal.returns-in-2
unfolding barrier_dual_of
returns-in-2 c = simp c.in-2.is (simp (← c.three_of-in-2.ensures) c.barrier_dual-in-2.ensures)

pub returns-in-3 : goal.returns-in-3
unfolding barrier_dual_of
returns-in-3 c =
    simp c.in-3.is (simp (← c.head.ensures) c.barrier_dual-in-3.ensures)

pub returns-in_default : goal.returns-in_default
unfolding barrier_dual_of
returns-in_default c =
    let not_1 : c.args.cone.kind ≡ 1 → ⊥ = omega arith in
    let not_2 : c.args.cone.kind ≡ 2 → ⊥ = omega arith in
    let not_3 : c.args.cone.kind ≡ 3 → ⊥ = omega arith in
    simp (ne_eqb _ _ not_1, ne_eqb _ _ not_2, ne_eqb _ _ not_3)
