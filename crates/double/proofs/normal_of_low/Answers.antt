-- `normal_of_low` meets its contract: the shift brings the leading one to 2^52, so no bit is lost. Assumes nothing.
use mathlib.Core.Path.{ap}
use Prim.Native.Nat.{ℕ, ◌-◌}
use native.Mathlib.Omega.{arith}
use lib.Count.{count_leading_zeros}
use Rattle.double.specs.Fields.{shift, normal_of}
use Rattle.double.proofs.Subnormals.{Shifted, shifted}
use Rattle.double.proofs.normal_of_low.Goals as goal
use Rattle.double.proofs.normal_of_low.Goals.{Start}

moved : (c : Start) → Shifted c.args.t (count_leading_zeros 64 c.args.t)
moved c = shifted c.args.t c.requires.0 c.requires.1

pub overflow_sub-s : goal.overflow_sub-s
overflow_sub-s c = omega (arith, (moved c).least)

pub returns : goal.returns
unfolding normal_of shift
returns c = ap (λ (a : ℕ). record { m = a; k = 52 - (count_leading_zeros 64 c.args.t - 11) }) (moved c).whole
