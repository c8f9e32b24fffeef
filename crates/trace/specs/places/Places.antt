-- Where a record goes, as the code finds it. Definitions only.
use Rattle.std.specs.Prelude.{ℕ, ◌+◌, Bool, cond, not, ◌&&◌, ◌||◌, List, eqb, leb, ltb, length, take}
use Rattle.cone.specs.table.Table.{trace_row}
use Rattle.octets.specs.words.Runs.{runs_size}
use Rattle.trace.specs.declared.judge.Judged.{Judged}
use Rattle.trace_layout.specs.Records.{has_rule, shape_ok, step_ok, runs_for}
use Rattle.trace_layout.specs.Traces.{most_records}
use Rattle.trace.specs.judge.Opening.{open_of}
use Rattle.trace_layout.specs.declared.pieces.Entry.{Entry}
use Rattle.trace_layout.specs.declared.pieces.Place.{Place}

unfoldable pub open_front : List ℕ → ℕ → Judged
open_front bs used = cond (leb used (length bs)) (open_of (take used bs)) (record { code = 9; edition = 0; count = 0; list = 0 })

-- `can_lay` of the numbers and the lengths
unfoldable pub entry_ok : ℕ → Entry → ℕ → ℕ → ℕ → ℕ → Bool
entry_ok e x ndz nds nz ns =
    let n = x.dim1 + x.dim2 in
    shape_ok x.kind x.dim1 x.dim2 x.flag && (has_rule e || eqb x.rule 1) && eqb ndz n && eqb nds n && eqb nz n && eqb ns n
    && step_ok x.dualstep
    && step_ok x.primalstep

unfoldable pub has_room : ℕ → ℕ → ℕ → ℕ → Bool
has_room room used count size = ltb count most_records && leb (used + size + 8) room

unfoldable pub place_with : ℕ → ℕ → Judged → Entry → ℕ → ℕ → ℕ → ℕ → Place
place_with room used o x ndz nds nz ns =
    let size = runs_size (runs_for o.edition x.kind x.dim1 x.dim2 x.flag) in
    record {
      code =
          trace_row (not (eqb o.code 0) || not (entry_ok o.edition x ndz nds nz ns)) (not (has_room room used o.count size));
      edition = o.edition;
      count = o.count;
      list = o.list;
      size = size;
    }

abbrev pub place_for : List ℕ → ℕ → Entry → ℕ → ℕ → ℕ → ℕ → Place
place_for bs used x ndz nds nz ns = place_with (length bs) used (open_front bs used) x ndz nds nz ns
