-- `places` meets its contract. The loop's invariant: the places after i turns. Assumes nothing.
use mathlib.Core.Path.{◌≡◌}
use lib.ListN.{replicate}
use Rattle.arith.specs.Turns.{iter}
use Rattle.double.specs.Numbers.{#0}
use Rattle.cone.specs.words.Words.{place_turn}
use Rattle.cone.proofs.words.places.Given as goal

abbrev pub invariant-loop-i : goal.invariant-loop-i
invariant-loop-i l = l.exps ≡ iter (place_turn l.fn.w) (replicate 32 #0) l.i
