-- `sum_of` meets its contract, place by place by that of `sum_place`. Assumes nothing.
use Rattle.scaling.specs.primal_dual.Block.{sum_at}
use Rattle.scaling.proofs.primal_dual.Places.{six}
use Rattle.scaling.proofs.primal_dual.sum_of.Goals as goal

pub returns : goal.returns
unfolding sum_at
returns c =
    six c.sum_place-w00.ensures c.sum_place-w01.ensures c.sum_place-w11.ensures
    c.sum_place-w02.ensures c.sum_place-w12.ensures c.sum_place-w22.ensures
