-- `number_of` meets its contract. The loop's invariant: the number so far, carried on over the bytes that are left, is the row's number.
-- Assumes nothing.
use mathlib.Core.Path.{◌≡◌}
use Prim.Native.Nat.{◌<◌}
use lib.ListN.{drop}
use Rattle.octets.specs.equal_bytes.Equal.{prime, number_from, number_of}
use Rattle.octets.proofs.equal_bytes.number_of.Given as goal

abbrev pub invariant-loop-b : goal.invariant-loop-b
invariant-loop-b l = (l.number < prime) × (number_from l.number (drop l.b-index l.bytes) ≡ number_of l.bytes)
