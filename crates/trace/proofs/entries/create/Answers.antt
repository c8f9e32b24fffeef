-- `create` meets its contract: fewer than twenty bytes stay as they are; else the trailer is stored, which is the trace of no record.
-- Assumes nothing.
use Rattle.octets.specs.words.Words.{le}
use Rattle.octets.specs.words.Runs.{runs_bytes}
use Prim.Native.Nat.{ℕ}
use mathlib.Core.List.{List}
use Rattle.trace.specs.entries.Writing.{create_of}
use Rattle.octets.specs.words.Words.{row_bytes}
use Rattle.trace_layout.specs.Traces.{newest_edition, records_bytes, offsets_from, trace_of, trailer_of}
use lib.Seq.{sets-eq}
use mathlib.Core.Path.{ap, ◌∙◌}
use borrow.Author.Tests.{lt-ltb, le-ltb}
use Rattle.trace.proofs.entries.create.Goals as goal

pub returns-then-trace-lt-TRAILER_SIZE : goal.returns-then-trace-lt-TRAILER_SIZE
unfolding create_of
returns-then-trace-lt-TRAILER_SIZE c = rw (lt-ltb _ _ c.if-trace-lt-TRAILER_SIZE.true, c.refused.ensures)

pub returns : goal.returns
unfolding create_of trace_of records_bytes offsets_from row_bytes trailer_of runs_bytes le
returns c =
    let bs = c.args.trace.now in
    rw (le-ltb _ _ c.if-trace-lt-TRAILER_SIZE.false)
    (ap (λ (l : List ℕ). record { answer = record { code = 0; length = 20 }; bytes = l })
    (c.put_trailer.ensures ∙ sets-eq (trailer_of 0 0 newest_edition) bs 0 c.if-trace-lt-TRAILER_SIZE.false))
