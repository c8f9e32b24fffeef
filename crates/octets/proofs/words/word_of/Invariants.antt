-- `word_of` meets its contract. The loop's invariant: x is what the bytes from i to n spell.. Assumes nothing.
use mathlib.Core.Path.{◌≡◌}
use Prim.Native.Nat.{◌≤◌, ◌<◌, ◌-◌, ◌^◌}
use lib.ListN.{take, drop}
use Rattle.octets.specs.words.Words.{spelled}
use Rattle.octets.proofs.words.word_of.Given as goal

abbrev pub invariant-loop-i : goal.invariant-loop-i
invariant-loop-i l = (l.i ≤ l.n) × (l.x ≡ spelled (drop l.i (take l.n l.bytes))) × (l.x < 256 ^ (l.n - l.i))
