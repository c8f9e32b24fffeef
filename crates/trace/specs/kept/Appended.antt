-- What a done call leaves. Statements; proofs/kept/Appended and proofs/kept/Made have the proofs.
use Rattle.std.specs.Prelude.{ℕ, ◌+◌, ◌<◌, ◌≡◌, true, List, [], ◌∷◌, ◌++◌, take, drop}
use Rattle.trace_layout.specs.Records.{Record}
use Rattle.trace_layout.specs.Traces.{newest_edition, list_at, count_at, edition_at, offset_at, good_trace, records_of}
use Rattle.trace.specs.entries.Writing.{Left}

-- the trace that a call leaves at the front of the slice
abbrev pub trace_in : Left → List ℕ
trace_in left = take left.answer.length left.bytes

-- `create`, done: the trace with no record, and the bytes behind it as they were
pub record Created (bs : List ℕ) (left : Left) : Type 0 where
  pub good : good_trace (trace_in left) ≡ true
  pub edition : edition_at (trace_in left) ≡ newest_edition
  pub records : records_of (trace_in left) ≡ []
  pub behind : drop left.answer.length left.bytes ≡ drop left.answer.length bs

-- `append` of a record, done: the earlier records are as they were, at their offsets, the new one
-- stands where the list stood, and the bytes behind the trace are as they were
pub record Appended (bs : List ℕ) (used : ℕ) (r : Record) (left : Left) : Type 0 where
  pub good : good_trace (trace_in left) ≡ true
  pub edition : edition_at (trace_in left) ≡ edition_at (take used bs)
  pub records : records_of (trace_in left) ≡ records_of (take used bs) ++ (r ∷ [])
  pub count : count_at (trace_in left) ≡ count_at (take used bs) + 1
  pub offsets : (i : ℕ) → i < count_at (take used bs) → offset_at (trace_in left) i ≡ offset_at (take used bs) i
  pub offset : offset_at (trace_in left) (count_at (take used bs)) ≡ list_at (take used bs)
  pub behind : drop left.answer.length left.bytes ≡ drop left.answer.length bs
