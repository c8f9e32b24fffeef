-- `place` meets its contract: each return is the case of `place_of` that the test leads to. Assumes nothing.
use mathlib.Core.Path.{refl}
use borrow.Author.Tests.{lt-ltb, le-ltb}
use Prim.Native.Nat.{◌-◌, ◌/◌, ◌^◌}
use native.Mathlib.Omega.{arith}
use Rattle.arith.proofs.Branches.{taken, left}
use Rattle.root.specs.reciprocal_table.Estimates.{place_of}
use Rattle.root.proofs.reciprocal_table.place.Goals as goal

pub returns-then-m-lt9007199254740992 : goal.returns-then-m-lt9007199254740992
unfolding place_of
returns-then-m-lt9007199254740992 c = taken (c.args.m / 2 ^ 47) (lt-ltb c.args.m (2 ^ 53) (omega arith)) refl

pub returns-else-m-lt9007199254740992 : goal.returns-else-m-lt9007199254740992
unfolding place_of
returns-else-m-lt9007199254740992 c = left (c.args.m / 2 ^ 46 - 64) (le-ltb c.args.m (2 ^ 53) (omega arith)) refl
