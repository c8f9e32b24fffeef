-- List and trailer behind records. Definitions only.
use Rattle.std.specs.Prelude.{ℕ, List, ◌++◌, length}
use Rattle.octets.specs.words.Words.{row_bytes}
use Rattle.trace_layout.specs.Traces.{trailer_of}

-- 02, Order 1: "Then comes the list of all record offsets in order (u64 each), and last a 20-byte trailer that points back".
-- The records end where the list begins
unfoldable pub seal_of : ℕ → ℕ → List ℕ → List ℕ
seal_of e end starts = row_bytes 8 starts ++ trailer_of end (length starts) e
