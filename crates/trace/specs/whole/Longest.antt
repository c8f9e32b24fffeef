-- The whole records are the longest prefix of whole records. Statements; proofs/whole/Longest has the proofs.
use Rattle.std.specs.Prelude.{ℕ, ◌≤◌, ◌<◌, ◌≡◌, true, false, List, ◌++◌, length, take, drop}
use Rattle.octets.specs.words.Words.{AllBelow}
use Rattle.trace_layout.specs.Records.{Record, laid_at}
use Rattle.trace_layout.specs.Traces.{most_records, records_bytes, AllLaid, edition_at, good_trace, records_of}
use Rattle.trace.specs.whole.Whole.{whole_records}

-- the records rs of an edition are the longest prefix of whole records of bs
pub record Longest (e : ℕ) (bs : List ℕ) (rs : List Record) : Type 0 where
  pub laid : AllLaid e rs
  pub few : length rs ≤ most_records
  -- their bytes are the first of bs, bit for bit
  pub prefix : records_bytes e rs ≡ take (length (records_bytes e rs)) bs
  -- where they are fewer than 4,096, none follows
  pub stopped : length rs < most_records → laid_at e (drop (length (records_bytes e rs)) bs) ≡ false
  -- whatever records the bytes begin with, rs begins with them
  pub longest : (ss : List Record) (rest : List ℕ) → AllLaid e ss → length ss ≤ most_records → bs ≡ records_bytes e ss ++ rest
      → take (length ss) rs ≡ ss

pub record OfWhole : Type 0 where
  pub longest : (e : ℕ) (bs : List ℕ) → AllBelow 256 bs → Longest e bs (whole_records e bs)
  -- of a good trace they are its records: neither its list nor its trailer looks like one
  pub good : (bs : List ℕ) → AllBelow 256 bs → good_trace bs ≡ true → whole_records (edition_at bs) bs ≡ records_of bs
