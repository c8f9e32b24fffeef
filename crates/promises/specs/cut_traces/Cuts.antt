-- 02, Order 7: "keep every whole record until the first that is cut or malformed". Of a good trace that is cut at a byte, whichever it is,
-- these are exactly the records that end at or before it. The definition, and the statement; proofs/cut_traces/Cuts has the proof.
use Rattle.std.specs.Prelude.{ℕ, ◌+◌, ◌≤◌, ◌≡◌, true, cond, List, [], ◌∷◌, leb, length, take}
use Rattle.octets.specs.words.Words.{AllBelow}
use Rattle.trace_layout.specs.Records.{Record, size_in}
use Rattle.trace_layout.specs.Traces.{trace_of, edition_at, good_trace, records_of}
use Rattle.trace_rescue.specs.call.Rescue.{Saved, edition_for, rescue_of}
use Rattle.trace_rescue.specs.call.Rescues.{trace_in}

-- the records that end at or before the byte k; the first of them begins at the offset `at`, and each where the one before it ends
unfoldable pub ending_by : ℕ → ℕ → ℕ → List Record → List Record
ending_by e k at [] = []
ending_by e k at (r ∷ rs) =
    let end = at + size_in e r in
    let later = ending_by e k end rs in
    cond (leb end k) (r ∷ later) later

-- what the rescue of bs, cut at k, leaves
pub record KeptOfCut (bs : List ℕ) (k : ℕ) (left : Saved) : Type 0 where
  pub done : left.answer.code ≡ 0
  pub good : good_trace (trace_in left) ≡ true
  pub edition : edition_at (trace_in left) ≡ edition_at bs
  pub records : records_of (trace_in left) ≡ ending_by (edition_at bs) k 0 (records_of bs)
  -- "report records kept"
  pub told : left.answer.kept ≡ length (ending_by (edition_at bs) k 0 (records_of bs))

-- The bytes are read by the trace's own edition, which the caller names, or the cut bytes end in it and `BACK` (Order 8). A cut inside a
-- record can leave bytes at its end that spell another known edition and `BACK`: then that one is taken, and this promises nothing. The
-- output has room for the trace of those records.
abbrev pub CutAnywhere : Type 0
CutAnywhere =
    (bs old : List ℕ) (k given : ℕ) → AllBelow 256 bs → good_trace bs ≡ true → edition_for (take k bs) given ≡ edition_at bs
    → length (trace_of (edition_at bs) (ending_by (edition_at bs) k 0 (records_of bs))) ≤ length old
    → KeptOfCut bs k (rescue_of (take k bs) old given)
