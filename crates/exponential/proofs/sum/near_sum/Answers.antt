-- `near_sum` meets its contract: the calls are the definition's own steps. Assumes nothing.
use Rattle.std.proofs.Common.{◌%◌, ◌^◌, arith}
use Rattle.exponential.specs.Estimates.{near_sum_of}
use Rattle.exponential.proofs.NearSums.{eight_small}
use Rattle.exponential.proofs.sum.near_sum.Goals as goal

pub overflow_mul-eight : goal.overflow_mul-eight
overflow_mul-eight c = let r = c.args.r in omega (arith, c.eight.ensures, eight_small (r % 2 ^ 58) (omega arith))

pub returns : goal.returns
unfolding near_sum_of
returns c = rw (c.high.ensures, c.eight.ensures, c.power.ensures)
