-- `newton_raphson_onesided` meets its contract: with `done` rounds done, what is left of the hundred from x is the answer. Assumes nothing.
use Rattle.std.proofs.Common.{◌≡◌, ◌-◌}
use Rattle.algebra.specs.newton.Equations.{f0_of, f1_of}
use Rattle.algebra.specs.newton.Rounds.{rounds, newton_of}
use Rattle.algebra.proofs.newton.newton_raphson_onesided.Given as goal

abbrev pub invariant-loop-done : goal.invariant-loop-done
invariant-loop-done l = rounds (f0_of l.e) (f1_of l.e) (100 - l.done) l.done l.x ≡ newton_of (f0_of l.e) (f1_of l.e) l.x0
