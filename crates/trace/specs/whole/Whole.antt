-- The whole records at the front of bytes, whatever follows them. 02, Order 7. Definitions only.
use Rattle.std.specs.Prelude.{ℕ, zero, suc, cond, List, [], ◌∷◌, length, drop}
use Rattle.trace_layout.specs.Records.{Record, laid_at, size_at, record_at}
use Rattle.trace_layout.specs.Traces.{most_records, records_bytes}
use Rattle.trace.specs.declared.whole.Walked.{Walked}

-- "Walk from byte 0, keep every whole record until the first that is cut or malformed", at most n of them. "Bytes after the first bad
-- record are not searched"
unfoldable pub whole_in : ℕ → ℕ → List ℕ → List Record
whole_in e zero t = []
whole_in e (suc n) t = cond (laid_at e t) (record_at e t ∷ whole_in e n (drop (size_at e t) t)) []

-- "a 4,097th record counts as bad"
abbrev pub whole_records : ℕ → List ℕ → List Record
whole_records e bs = whole_in e most_records bs

-- what the walk answers
unfoldable pub walked_of : ℕ → List ℕ → Walked
walked_of e bs = record { count = length (whole_records e bs); end = length (records_bytes e (whole_records e bs)) }
