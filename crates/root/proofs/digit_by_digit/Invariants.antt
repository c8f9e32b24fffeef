-- `digit_by_digit` meets its contract. The loop's invariant is `Turn`: what the digits passed and the rest hold is the number times 4^i.
-- Assumes nothing.
use Prim.Native.Nat.{◌*◌}
use Rattle.root.proofs.DigitSteps.{Turn}
use Rattle.root.proofs.digit_by_digit.Given as goal

abbrev pub invariant-loop : goal.invariant-loop
invariant-loop l = Turn (l.m * 1024) l.counter l.root l.rem l.rest
