-- 02: "what one writes the other reads back the same". Statements of the theorems on records and traces; proofs/Inverses has the proofs.
use Rattle.std.specs.Prelude.{ℕ, ◌≤◌, ◌<◌, ◌≡◌, true, List, [], ◌∷◌, ◌++◌, length, take, get_or}
use Rattle.octets.specs.words.Words.{AllBelow}
use Rattle.trace_layout.specs.Records.{Record, Laid, Sized, bytes_of, laid_at, size_at, record_at}
use Rattle.trace_layout.specs.Traces.{most_records, known, records_bytes, offsets_from, trace_of, AllLaid, edition_at, offset_at}
use Rattle.trace_layout.specs.Traces.{good_trace}
use Rattle.trace_layout.specs.Traces.{records_of}

-- of one record, whatever lies behind it
pub record OfRecords : Type 0 where
  pub found : (e : ℕ) (r : Record) → Laid e r → Sized r → (rest : List ℕ) → laid_at e (bytes_of e r ++ rest) ≡ true
  pub read : (e : ℕ) (r : Record) → Laid e r → Sized r → (rest : List ℕ) → record_at e (bytes_of e r ++ rest) ≡ r
  -- what is found was written so: no bit of it is lost, patterns of NaNs included
  pub written : (e : ℕ) (t : List ℕ) → AllBelow 256 t → laid_at e t ≡ true → bytes_of e (record_at e t) ≡ take (size_at e t) t
  pub laid : (e : ℕ) (t : List ℕ) → AllBelow 256 t → laid_at e t ≡ true → Laid e (record_at e t) × Sized (record_at e t)

-- an edition and records that make a trace
pub record Makes (e : ℕ) (rs : List Record) : Type 0 where
  pub edition : known e ≡ true
  pub few : length rs ≤ most_records
  pub laid : AllLaid e rs

-- of a trace
pub record OfTraces : Type 0 where
  pub good : (e : ℕ) (rs : List Record) → Makes e rs → good_trace (trace_of e rs) ≡ true
  pub edition : (e : ℕ) (rs : List Record) → Makes e rs → edition_at (trace_of e rs) ≡ e
  pub read : (e : ℕ) (rs : List Record) → Makes e rs → records_of (trace_of e rs) ≡ rs
  pub offset : (e : ℕ) (rs : List Record) → Makes e rs → (i : ℕ) → i < length rs → offset_at (trace_of e rs) i
      ≡ get_or (offsets_from e 0 rs) i 0
  -- a good trace was written so, of an edition and records that make one
  pub written : (bs : List ℕ) → AllBelow 256 bs → good_trace bs ≡ true → bs ≡ trace_of (edition_at bs) (records_of bs)
  pub makes : (bs : List ℕ) → AllBelow 256 bs → good_trace bs ≡ true → Makes (edition_at bs) (records_of bs)
  -- so its edition and its records determine it
  pub determined : (bs cs : List ℕ) → AllBelow 256 bs → AllBelow 256 cs → good_trace bs ≡ true → good_trace cs ≡ true
      → edition_at bs ≡ edition_at cs → records_of bs ≡ records_of cs → bs ≡ cs

-- One record more: the earlier ones keep their offsets, and the new one stands where the list stood.
pub record OfAppending : Type 0 where
  pub kept : (e : ℕ) (rs : List Record) (r : Record) (i : ℕ) → i < length rs
      → get_or (offsets_from e 0 (rs ++ (r ∷ []))) i 0 ≡ get_or (offsets_from e 0 rs) i 0
  pub new : (e : ℕ) (rs : List Record) (r : Record) → AllLaid e rs
      → get_or (offsets_from e 0 (rs ++ (r ∷ []))) (length rs) 0 ≡ length (records_bytes e rs)
