-- `barrier_primal` is its definition: the calls are replaced by what they promise, and an array's used places by the list they hold. Assumes
-- nothing.
use Rattle.std.proofs.Common.{map, length, arith, length-take}
use lib.Ieee.{neg}
use lib.ListN.{length-map}
use Rattle.cone.proofs.Points.{padded_front}
use Rattle.genpowcone.specs.Barriers.{barrier_primal_of}
use Rattle.genpowcone.proofs.barrier_primal.Goals as goal

-- g has 64 places, so no more are in use
pub negated-minus_g-requires : goal.negated-minus_g-requires
negated-minus_g-requires c = rw c.head-used.ensures (simp length-take (omega arith))

pub returns : goal.returns
unfolding barrier_primal_of
returns c =
    let dual = c.before in
    let minus = dual.before.before.before in
    let cut = minus.before in
    let used = cut.head-used.result.now in
    rw (
      c.nearest_u64_to_f64.ensures,
      dual.barrier_dual-barrier.ensures,
      dual.head.ensures,
      minus.negated-minus_g.ensures,
      padded_front 64 (map neg used) (length used) (length-map used neg),
      cut.head-used.ensures,
      cut.gradient_primal-f.ensures,
    )
