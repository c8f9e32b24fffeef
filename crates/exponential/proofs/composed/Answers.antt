-- `composed` meets its contract: the pattern stays below an infinity's. Assumes nothing.
use Rattle.std.proofs.Common.{◌+◌, ◌^◌, ◌≤◌, arith, lit<}
use Rattle.double.proofs.Made.{number}
use Rattle.exponential.specs.Steps.{composed}
use Rattle.exponential.proofs.Horner.{horner-most}
use Rattle.exponential.proofs.composed.Goals as goal
use Rattle.exponential.proofs.composed.Goals.{After-rounded}

digits_small : (c : After-rounded) → c.rounded.result ≤ 2 ^ 53 + 1
digits_small c = omega (arith, c.rounded.ensures, horner-most c.args.r 39 c.requires.2 (lit< tt))

pub float_from_bits-result : goal.float_from_bits-result
float_from_bits-result c = number _ (omega (arith, digits_small c))

pub returns : goal.returns
unfolding composed
returns c = rw c.rounded.ensures

pub overflow_add-result : goal.overflow_add-result
overflow_add-result c = omega (arith, digits_small c)
