-- A trace thinned. 02, Order 13. Definitions only.
use Rattle.std.specs.Prelude.{ℕ, ◌-◌, false, not, List, ◌++◌, ltb, length, drop, replicate}
use Rattle.cone.specs.table.Table.{trace_row, settle}
use Rattle.trace_layout.specs.Records.{Record, bytes_of}
use Rattle.trace_layout.specs.Traces.{trace_of, edition_at, good_trace, records_of}
use Rattle.trace_thin.specs.firsts.Firsts.{firsts}
use Rattle.trace_thin.specs.declared.call.Thinned.{Thinned}

-- "a record byte-equal to an earlier kept record is dropped, the others in their old order"
abbrev pub kept_of : List ℕ → List Record
kept_of bs = firsts (bytes_of (edition_at bs)) (records_of bs)

-- "offsets and trailer new, edition kept"
abbrev pub thin_trace : List ℕ → List ℕ
thin_trace bs = trace_of (edition_at bs) (kept_of bs)

-- a call's answer, and the slice that it was lent to write to
pub record Left : Type 0 where
  pub answer : Thinned
  pub output : List ℕ

-- 01: "A refusal returns zeros for all numbers", "changes no lent buffer"
abbrev pub refused_with : ℕ → Thinned
refused_with k = record { code = k; kept = 0; dropped = 0; length = 0 }

abbrev pub refuse : List ℕ → ℕ → Left
refuse old k = record { answer = refused_with k; output = old }

-- "Report the new length, kept and dropped"
abbrev pub report_of : List ℕ → Thinned
report_of bs =
    record { code = 0; kept = length (kept_of bs); dropped = length (records_of bs) - length (kept_of bs); length = length (thin_trace bs) }

-- "a separate output stays unchanged after the new trailer"
abbrev pub apart : List ℕ → List ℕ → Left
apart bs old = record { answer = report_of bs; output = thin_trace bs ++ drop (length (thin_trace bs)) old }

-- "inside one buffer, where the freed tail bytes are set to zero"
abbrev pub within : List ℕ → Left
within bs = record { answer = report_of bs; output = thin_trace bs ++ replicate (length bs - length (thin_trace bs)) 0 }

-- "Refusals: 8 only for a separate output that is too short, 9 for a broken trace". Order 1 has 9 before 8
unfoldable pub thin_of : List ℕ → List ℕ → Left
thin_of bs old = settle (trace_row (not (good_trace bs)) (ltb (length old) (length (thin_trace bs)))) (apart bs old) (refuse old)

unfoldable pub thin_in_place_of : List ℕ → Left
thin_in_place_of bs = settle (trace_row (not (good_trace bs)) false) (within bs) (refuse bs)
