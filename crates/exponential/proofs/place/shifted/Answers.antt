-- `shifted` meets its contract: a shift by 64 or more leaves nothing. Assumes nothing.
use Rattle.std.proofs.Common.{rules}
use Rattle.exponential.proofs.Shifts.{shifted_out}
use Rattle.exponential.proofs.place.shifted.Goals as goal

pub returns-else-n-lt64 : goal.returns-else-n-lt64
returns-else-n-lt64 c = shifted_out _ _ (search rules) (search rules)
