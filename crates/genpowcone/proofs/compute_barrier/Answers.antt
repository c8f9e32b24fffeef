-- `compute_barrier` is its definition: the calls are replaced by what they promise, and an array's used places by the point they hold.
-- Assumes nothing.
use Rattle.std.proofs.Common.{◌≡◌, ℕ, ◌≤◌, min, List, length, take, ap, ◌∙◌, arith, length-take}
use lib.Ieee.{Float}
use Rattle.algebra.specs.Vectors.{moved_of}
use Rattle.algebra.proofs.Moved.{moved_length}
use Rattle.cone.proofs.Points.{padded_front}
use Rattle.genpowcone.specs.Barriers.{compute_barrier_of}
use Rattle.genpowcone.proofs.compute_barrier.Goals as goal

-- the moved point has no more places than s
front_fits : (n m k : ℕ) (a : List Float) {b : List Float} → n ≡ min m k → m ≤ 64 → b ≡ take n a → length b ≤ 64
front_fits n m k a e h f = omega (arith, e, ap length f ∙ length-take n a)

pub barrier_primal-primal-requires : goal.barrier_primal-primal-requires
barrier_primal-primal-requires c =
    let pre = c.requires in
    (pre.0, front_fits _ _ _ _ c.min-ns.ensures pre.1 c.head.ensures)

pub returns : goal.returns
unfolding compute_barrier_of
returns c =
    let a = c.args in
    simp (
      c.barrier_dual-dual.ensures,
      c.head-2.ensures,
      c.min-nz.ensures,
      c.moved-cur_z.ensures,
      c.barrier_primal-primal.ensures,
      c.head.ensures,
      c.min-ns.ensures,
      c.moved-cur_s.ensures,
      padded_front 64 (moved_of a.s.now a.step a.ds.now) _ (moved_length a.s.now a.step a.ds.now),
      padded_front 64 (moved_of a.z.now a.step a.dz.now) _ (moved_length a.z.now a.step a.dz.now),
    )
