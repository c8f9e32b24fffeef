-- `rest` meets its contract, place by place by that of `less_both`. Assumes nothing.
use Rattle.scaling.specs.primal_dual.Block.{rest_at}
use Rattle.scaling.proofs.primal_dual.Places.{six}
use Rattle.scaling.proofs.primal_dual.rest.Goals as goal

pub returns : goal.returns
unfolding rest_at
returns c =
    six c.less_both-w00.ensures c.less_both-w01.ensures c.less_both-w11.ensures
    c.less_both-w02.ensures c.less_both-w12.ensures c.less_both-w22.ensures
