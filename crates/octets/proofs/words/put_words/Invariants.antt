-- `put_words` meets its contract. The loop's invariant: writing the numbers that are left
-- gives what the call is to leave. Assumes nothing.
use mathlib.Core.Path.{◌≡◌}
use Prim.Native.Nat.{◌+◌, ◌*◌}
use lib.ListN.{length, drop}
use lib.Seq.{sets}
use Rattle.octets.specs.words.Words.{row_bytes}
use Rattle.octets.proofs.words.put_words.Given as goal

abbrev pub invariant-loop-x : goal.invariant-loop-x
invariant-loop-x l =
    (length l.bytes ≡ length l.initial.bytes) × (l.at ≡ l.place + l.n * l.x-index)
    × (sets l.bytes (l.place + l.n * l.x-index) (row_bytes l.n (drop l.x-index l.row)) ≡ sets l.initial.bytes l.place (row_bytes l.n l.row))
