-- What the entries that write answer, and what they leave in the lent slice, for all arguments. Definitions only.
use Rattle.std.specs.Prelude.{ℕ, Bool, cond, not, ◌&&◌, List, [], ◌∷◌, ◌++◌, leb, ltb, Float, length, take, drop}
use Rattle.cone.specs.declared.Cone.{Cone}
use Rattle.cone.specs.declared.Settings.{Settings}
use Rattle.cone.specs.declared.Steps.{Steps}
use Rattle.cone.specs.table.Table.{trace_row, settle}
use Rattle.trace_layout.specs.Records.{Record}
use Rattle.trace_layout.specs.Traces.{newest_edition, most_records, trailer_size, trace_of, edition_at, good_trace, records_of}
use Rattle.trace.specs.declared.entries.Written.{Written}
use Rattle.trace.specs.places.Given.{given_of, can_lay}

-- a call's answer, and the bytes of the slice that it was lent
pub record Left : Type 0 where
  pub answer : Written
  pub bytes : List ℕ

-- 01: "A refusal returns zeros for all numbers", "changes no lent buffer"
abbrev pub refuse : List ℕ → ℕ → Left
refuse bs k = record { answer = record { code = k; length = 0 }; bytes = bs }

-- the slice begins with the new trace, and what lies behind it stays
abbrev pub leave : List ℕ → List ℕ → Left
leave bs new = record { answer = record { code = 0; length = length new }; bytes = new ++ drop (length new) bs }

-- the trace with no record
unfoldable pub create_of : List ℕ → Left
create_of bs = let new = trace_of newest_edition [] in cond (ltb (length bs) trailer_size) (refuse bs 8) (leave bs new)

-- the slice begins with a good trace of `used` bytes
abbrev pub good_front : List ℕ → ℕ → Bool
good_front bs used = leb used (length bs) && good_trace (take used bs)

-- the trace that begins the slice, with one record more
unfoldable pub longer : List ℕ → ℕ → Record → List ℕ
longer bs used r = let old = take used bs in trace_of (edition_at old) (records_of old ++ (r ∷ []))

-- 02: "Refusals, the only ones here: 9 a trace or record that breaks the layout; then 8 no room for record plus list plus trailer, or 4,096
-- records already"
unfoldable pub append_rows : List ℕ → ℕ → Record → ℕ
append_rows bs used r =
    trace_row (not (good_front bs used && can_lay (edition_at (take used bs)) r))
    (not (ltb (length (records_of (take used bs))) most_records && leb (length (longer bs used r)) (length bs)))

unfoldable pub append_of : List ℕ → ℕ → Cone → ℕ → Settings → List Float → List Float → List Float → List Float → Steps → Left
append_of bs used c flag settings dz ds z s steps =
    let r = given_of c flag settings dz ds z s steps in
    settle (append_rows bs used r) (leave bs (longer bs used r)) (refuse bs)
