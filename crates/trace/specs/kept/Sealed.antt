-- Records that are put one behind another, refused calls included, and then sealed. Definitions, and the statements; proofs/kept/Sealed has
-- the proofs.
use Rattle.std.specs.Prelude.{ℕ, ◌≤◌, ◌≡◌, cond, List, [], ◌∷◌, ◌++◌, eqb, length, take}
use Rattle.octets.specs.words.Words.{AllBelow}
use Rattle.trace_layout.specs.Traces.{newest_edition, most_records, trailer_size, records_bytes, trace_of}
use Rattle.trace.specs.entries.Writing.{Left}
use Rattle.trace.specs.entries.Values.{Passed}
use Rattle.trace.specs.recording.Recording.{record_put_of, record_at_of, trace_seal_of}
use Rattle.trace.specs.kept.Kept.{kept_of}
use Rattle.trace.specs.kept.Appended.{trace_in}
use Rattle.trace.specs.kept.Made.{Call, handed, called, AllPassed, Held, begun, append_one, append_all}

abbrev pub put_call : ℕ → List ℕ → ℕ → Call → Left
put_call e bs at a = record_put_of bs at e a.cone a.flag a.settings a.dz a.ds a.z a.s a.steps

-- a slice of which nothing is in use
abbrev pub unused : List ℕ → Held
unused bs = record { bytes = bs; used = 0; done = [] }

-- a record behind those that were put; after a refused call the slice and its use are as they were
unfoldable pub put_one : ℕ → Held → Call → Held
put_one e h a =
    let left = put_call e h.bytes h.used a in
    cond (eqb left.answer.code 0) (record { bytes = left.bytes; used = left.answer.length; done = h.done ++ (handed a ∷ []) }) h

unfoldable pub put_all : ℕ → Held → List Call → Held
put_all e h [] = h
put_all e h (a ∷ calls) = put_all e (put_one e h a) calls

-- the seal of what was put
abbrev pub seal_all : ℕ → Held → Left
seal_all e h = trace_seal_of h.bytes h.used e

-- each call of `append` is done, one on what the other left
unfoldable pub EachAppended : Held → List Call → Type 0
EachAppended h [] = Unit
EachAppended h (a ∷ calls) = ((called h.bytes h.used a).answer.code ≡ 0) × EachAppended (append_one h a) calls

pub record PutSealed : Type 1 where
  -- a record that was put is read back the same at its place, and the next one begins where the put ended
  pub read : (e : ℕ) (bs : List ℕ) (at : ℕ) (a : Call) → Passed a.cone a.flag a.settings a.dz a.ds a.z a.s a.steps
      → (put_call e bs at a).answer.code ≡ 0
      → (record_at_of (put_call e bs at a).bytes e at ≡ kept_of e at a.cone a.flag a.settings a.dz a.ds a.z a.s a.steps)
      × ((record_at_of (put_call e bs at a).bytes e at).next ≡ (put_call e bs at a).answer.length)
  -- whatever is put, one behind the other: the bytes in use are those of the records of the calls that were done, in their order
  pub bytes : (e : ℕ) (bs : List ℕ) (calls : List Call) → AllPassed calls
      → let h = put_all e (unused bs) calls in take h.used h.bytes ≡ records_bytes e h.done
  -- and a seal that is done leaves the trace of these records
  pub sealed : (e : ℕ) (bs : List ℕ) (calls : List Call) → AllPassed calls
      → let h = put_all e (unused bs) calls in
      length h.done ≤ most_records → (seal_all e h).answer.code ≡ 0 → trace_in (seal_all e h) ≡ trace_of e h.done
  -- put, put, .., seal is the trace that create and appends make, byte for byte: where each append is done in a slice, so are each put and
  -- the seal in one that is as long, and the two traces are the same
  pub same : (bs cs : List ℕ) (calls : List Call) → AllBelow 256 cs → trailer_size ≤ length cs → length cs ≤ length bs → AllPassed calls
      → EachAppended (begun cs) calls
      → let h = put_all newest_edition (unused bs) calls in
      let made = append_all (begun cs) calls in
      (h.done ≡ made.done) × ((seal_all newest_edition h).answer.code ≡ 0)
      × (trace_in (seal_all newest_edition h) ≡ take made.used made.bytes)
