-- `replay` meets its contract: the trace is judged, the offsets are noted in a row of its own, and only where they have room they go out.
-- Assumes nothing.
use mathlib.Core.Path.{◌≡◌, sym, ap, ◌∙◌}
use Rattle.cone.specs.table.Table.{number_of, code_of}
use Rattle.cone.proofs.table.Settled.{number_above_0}
use mathlib.Core.List.{List}
use Prim.Native.Nat.{ℕ, ◌≤◌}
use native.Mathlib.Omega.{arith}
use lib.ListN.{length, take}
use lib.Seq.{length-take-le, length-sets}
use Rattle.octets.proofs.words.Stores.{cut-is}
use Rattle.trace_layout.specs.Traces.{most_records}
use Rattle.trace.specs.declared.judge.Judged.{Judged}
use Rattle.trace_replay.specs.declared.call.Replayed.{Replayed}
use Rattle.trace_replay.specs.call.Replay.{Noted, differing_in}
use Rattle.trace_replay.proofs.call.Counting.{found-most, found_few, refused-row, room, replayed_row}
use Rattle.trace_replay.proofs.call.replay.Goals as goal

abbrev noted_with : List ℕ → Replayed → Noted
noted_with offsets answer = record { answer = answer; offsets = offsets }

-- what is known where the rows were judged

pub returns-in-Err : goal.returns-in-Err
returns-in-Err c =
    let n : ℕ = c.note_all-n.result in
    let opened : Judged = c.open-opened.result in
    let trace : List ℕ = c.args.trace.now in
    let old : List ℕ = c.args.at.now in
    ap (noted_with old) c.refused.ensures
    ∙ refused-row trace old opened c.open-opened.ensures _ n
    (sym (ap code_of c.in-Err.is) ∙ c.trace_row.ensures) c.note_all-n.ensures.0
    (number_above_0 _)

pub slice_bounds-offsets-end : goal.slice_bounds-offsets-end
slice_bounds-offsets-end c =
    let n : ℕ = c.note_all-n.result in
    let opened : Judged = c.open-opened.result in
    let trace : List ℕ = c.args.trace.now in
    let old : List ℕ = c.args.at.now in
    let noted-row : List ℕ = c.note_all-n.new.offsets in
    let few : n ≤ most_records = omega (arith, c.note_all-n.ensures.0, found_few trace old opened c.open-opened.ensures) in
    let row-length : length noted-row ≡ most_records =
    let row = c.row-offsets in ap length c.note_all-n.ensures.1 ∙ length-sets row.result 0 (differing_in trace opened)
    ∙ row.ensures.0 in
    omega (arith, few, row-length)

pub slice_bounds-store-end : goal.slice_bounds-store-end
slice_bounds-store-end c =
    let n : ℕ = c.note_all-n.result in
    let opened : Judged = c.open-opened.result in
    let trace : List ℕ = c.args.trace.now in
    let old : List ℕ = c.args.at.now in
    let noted-row : List ℕ = c.note_all-n.new.offsets in
    let few : n ≤ most_records = omega (arith, c.note_all-n.ensures.0, found_few trace old opened c.open-opened.ensures) in
    let row-length : length noted-row ≡ most_records =
    let row = c.row-offsets in ap length c.note_all-n.ensures.1 ∙ length-sets row.result 0 (differing_in trace opened)
    ∙ row.ensures.0 in
    sym (length-take-le n noted-row (omega (arith, few, row-length)))

pub store-requires : goal.store-requires
store-requires c =
    let n : ℕ = c.note_all-n.result in
    let opened : Judged = c.open-opened.result in
    let trace : List ℕ = c.args.trace.now in
    let old : List ℕ = c.args.at.now in
    let noted-row : List ℕ = c.note_all-n.new.offsets in
    let few : n ≤ most_records = omega (arith, c.note_all-n.ensures.0, found_few trace old opened c.open-opened.ensures) in
    let row-length : length noted-row ≡ most_records =
    let row = c.row-offsets in ap length c.note_all-n.ensures.1 ∙ length-sets row.result 0 (differing_in trace opened)
    ∙ row.ensures.0 in
    let has_room : (code_of c.trace_row.result) ≡ 0 → n ≤ length old =
    λ on. room trace old opened c.open-opened.ensures _ n c.trace_row.ensures c.note_all-n.ensures.0 on in
    let places = length-take-le n noted-row (omega (arith, few, row-length)) in
    omega (arith, places, has_room (ap code_of c.in_default.is))

pub overflow_cast-result : goal.overflow_cast-result
overflow_cast-result c =
    let n : ℕ = c.note_all-n.result in
    let opened : Judged = c.open-opened.result in
    let trace : List ℕ = c.args.trace.now in
    let old : List ℕ = c.args.at.now in
    let few : n ≤ most_records = omega (arith, c.note_all-n.ensures.0, found_few trace old opened c.open-opened.ensures) in
    omega (arith, few)

pub overflow_sub-result : goal.overflow_sub-result
overflow_sub-result c =
    let n : ℕ = c.note_all-n.result in
    let opened : Judged = c.open-opened.result in
    let trace : List ℕ = c.args.trace.now in
    let old : List ℕ = c.args.at.now in
    let most : n ≤ opened.count = omega (arith, c.note_all-n.ensures.0, found-most trace old opened c.open-opened.ensures) in
    most

pub overflow_cast-result-2 : goal.overflow_cast-result-2
overflow_cast-result-2 c =
    let n : ℕ = c.note_all-n.result in
    let opened : Judged = c.open-opened.result in
    let trace : List ℕ = c.args.trace.now in
    let old : List ℕ = c.args.at.now in
    let few : n ≤ most_records = omega (arith, c.note_all-n.ensures.0, found_few trace old opened c.open-opened.ensures) in
    omega (arith, few)

pub returns : goal.returns
returns c =
    let n : ℕ = c.note_all-n.result in
    let opened : Judged = c.open-opened.result in
    let trace : List ℕ = c.args.trace.now in
    let old : List ℕ = c.args.at.now in
    let noted-row : List ℕ = c.note_all-n.new.offsets in
    let few : n ≤ most_records = omega (arith, c.note_all-n.ensures.0, found_few trace old opened c.open-opened.ensures) in
    let cut : take n noted-row ≡ differing_in trace opened =
    let count = c.note_all-n.ensures.0 in cut-is c.row-offsets.result (differing_in trace opened) noted-row n c.note_all-n.ensures.1
    count (omega (arith, few, count, c.row-offsets.ensures.0)) in
    replayed_row trace old opened c.open-opened.ensures _ n
    c.trace_row.ensures c.note_all-n.ensures.0
    (ap code_of c.in_default.is) c.store.new.out _ cut c.store.ensures
