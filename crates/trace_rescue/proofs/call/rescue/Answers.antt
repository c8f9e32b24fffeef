-- `rescue` meets its contract: the trace is judged, its edition is chosen, its records are walked over, and only where no row applies they
-- go out, list and trailer behind them. Assumes nothing.
use borrow.Author.Rules.{rules}
use mathlib.Core.Path.{◌≡◌, sym, ap, ◌∙◌}
use Rattle.cone.specs.table.Table.{number_of, code_of}
use Rattle.cone.proofs.table.Settled.{number_above_0}
use mathlib.Core.List.{List}
use Prim.Native.Nat.{ℕ, ◌+◌, ◌*◌, ◌≤◌}
use native.Mathlib.Omega.{arith}
use lib.ListN.{length, take}
use lib.Seq.{sets, length-take-le}
use Rattle.octets.specs.words.Words.{AllBelow}
use Rattle.octets.proofs.words.Words.{below_of_places}
use Rattle.trace_layout.specs.Traces.{most_records}
use Rattle.trace.specs.declared.judge.Judged.{Judged}
use Rattle.trace.specs.judge.Opening.{open_of}
use Rattle.trace.specs.declared.whole.Walked.{Walked}
use Rattle.trace.specs.whole.Whole.{walked_of}
use Rattle.trace_rescue.specs.declared.call.Rescued.{Rescued}
use Rattle.trace_rescue.specs.call.Rescue.{edition_for, Saved}
use Rattle.trace_rescue.proofs.call.Answers.{few, inside, taken_inside, refused-row, room, done}
use Rattle.trace_rescue.proofs.call.rescue.Goals as goal

abbrev saved_with : List ℕ → Rescued → Saved
saved_with output answer = record { answer = answer; output = output }

-- what is known where the walk ended

pub overflow_mul-length : goal.overflow_mul-length
overflow_mul-length c =
    let bs : List ℕ = c.args.input.now in
    let o : Judged = c.open-opened.result in
    let e : ℕ = c.edition_for-chosen.result in
    let w : Walked = c.walk-walked.result in
    let judged : o ≡ open_of bs = c.open-opened.ensures in
    let chosen : e ≡ edition_for bs c.args.edition = c.edition_for-chosen.ensures in
    let told : w ≡ walked_of e bs = c.walk-walked.ensures.0 in
    let is_bytes : AllBelow 256 bs = below_of_places 256 bs (λ i h. search rules) in
    let walked_few : w.count ≤ most_records = few bs is_bytes o judged _ e chosen w told in
    omega (arith, walked_few)

pub overflow_add-length : goal.overflow_add-length
overflow_add-length c =
    let bs : List ℕ = c.args.input.now in
    let o : Judged = c.open-opened.result in
    let e : ℕ = c.edition_for-chosen.result in
    let w : Walked = c.walk-walked.result in
    let judged : o ≡ open_of bs = c.open-opened.ensures in
    let chosen : e ≡ edition_for bs c.args.edition = c.edition_for-chosen.ensures in
    let told : w ≡ walked_of e bs = c.walk-walked.ensures.0 in
    let is_bytes : AllBelow 256 bs = below_of_places 256 bs (λ i h. search rules) in
    let walked_few : w.count ≤ most_records = few bs is_bytes o judged _ e chosen w told in
    let walked_inside : w.end ≤ length bs = inside bs is_bytes o judged _ e chosen w told in
    omega (arith, walked_few, walked_inside, c.well_formed)

pub overflow_add-length-2 : goal.overflow_add-length-2
overflow_add-length-2 c =
    let bs : List ℕ = c.args.input.now in
    let o : Judged = c.open-opened.result in
    let e : ℕ = c.edition_for-chosen.result in
    let w : Walked = c.walk-walked.result in
    let judged : o ≡ open_of bs = c.open-opened.ensures in
    let chosen : e ≡ edition_for bs c.args.edition = c.edition_for-chosen.ensures in
    let told : w ≡ walked_of e bs = c.walk-walked.ensures.0 in
    let is_bytes : AllBelow 256 bs = below_of_places 256 bs (λ i h. search rules) in
    let walked_few : w.count ≤ most_records = few bs is_bytes o judged _ e chosen w told in
    let walked_inside : w.end ≤ length bs = inside bs is_bytes o judged _ e chosen w told in
    omega (arith, walked_few, walked_inside, c.well_formed)

pub returns-in-Err : goal.returns-in-Err
returns-in-Err c =
    let bs : List ℕ = c.args.input.now in
    let old : List ℕ = c.args.output.now in
    let o : Judged = c.open-opened.result in
    let e : ℕ = c.edition_for-chosen.result in
    let w : Walked = c.walk-walked.result in
    let judged : o ≡ open_of bs = c.open-opened.ensures in
    let chosen : e ≡ edition_for bs c.args.edition = c.edition_for-chosen.ensures in
    let told : w ≡ walked_of e bs = c.walk-walked.ensures.0 in
    let is_bytes : AllBelow 256 bs = below_of_places 256 bs (λ i h. search rules) in (
      ap (saved_with old) c.refused.ensures
          ∙ refused-row bs is_bytes o judged _ e chosen w told old _ c.known.ensures _
          (sym (ap code_of c.in-Err.is) ∙ c.trace_row.ensures) (number_above_0 _),
      is_bytes,
    )

pub copy-requires : goal.copy-requires
copy-requires c =
    let bs : List ℕ = c.args.input.now in
    let old : List ℕ = c.args.output.now in
    let o : Judged = c.open-opened.result in
    let e : ℕ = c.edition_for-chosen.result in
    let w : Walked = c.walk-walked.result in
    let judged : o ≡ open_of bs = c.open-opened.ensures in
    let chosen : e ≡ edition_for bs c.args.edition = c.edition_for-chosen.ensures in
    let told : w ≡ walked_of e bs = c.walk-walked.ensures.0 in
    let is_bytes : AllBelow 256 bs = below_of_places 256 bs (λ i h. search rules) in
    let walked_inside : w.end ≤ length bs = inside bs is_bytes o judged _ e chosen w told in
    let has_room : w.end + 8 * w.count + 20 ≤ length old =
    room bs is_bytes o judged _ e chosen w told old _ c.known.ensures _ c.trace_row.ensures (ap code_of c.in_default.is) in
    let front_length : length c.front.result.now ≡ w.end = ap length c.front.ensures ∙ length-take-le w.end bs walked_inside in
    omega (arith, front_length, has_room)

pub slice_bounds-starts-end : goal.slice_bounds-starts-end
slice_bounds-starts-end c =
    let bs : List ℕ = c.args.input.now in
    let o : Judged = c.open-opened.result in
    let e : ℕ = c.edition_for-chosen.result in
    let w : Walked = c.walk-walked.result in
    let starts : List ℕ = c.walk-walked.new.starts in
    let judged : o ≡ open_of bs = c.open-opened.ensures in
    let chosen : e ≡ edition_for bs c.args.edition = c.edition_for-chosen.ensures in
    let told : w ≡ walked_of e bs = c.walk-walked.ensures.0 in
    let is_bytes : AllBelow 256 bs = below_of_places 256 bs (λ i h. search rules) in
    let walked_few : w.count ≤ most_records = few bs is_bytes o judged _ e chosen w told in
    let starts-length : length starts ≡ most_records = c.walk-walked.auto.starts ∙ c.row-starts.ensures.0 in
    omega (arith, walked_few, starts-length)

pub slice_bounds-seal-end : goal.slice_bounds-seal-end
slice_bounds-seal-end c =
    let bs : List ℕ = c.args.input.now in
    let o : Judged = c.open-opened.result in
    let e : ℕ = c.edition_for-chosen.result in
    let w : Walked = c.walk-walked.result in
    let starts : List ℕ = c.walk-walked.new.starts in
    let judged : o ≡ open_of bs = c.open-opened.ensures in
    let chosen : e ≡ edition_for bs c.args.edition = c.edition_for-chosen.ensures in
    let told : w ≡ walked_of e bs = c.walk-walked.ensures.0 in
    let is_bytes : AllBelow 256 bs = below_of_places 256 bs (λ i h. search rules) in
    let walked_few : w.count ≤ most_records = few bs is_bytes o judged _ e chosen w told in
    let starts-length : length starts ≡ most_records = c.walk-walked.auto.starts ∙ c.row-starts.ensures.0 in
    let cut-length : length (take w.count starts) ≡ w.count = length-take-le w.count starts (omega (arith, walked_few, starts-length)) in
    sym cut-length

pub seal-requires : goal.seal-requires
seal-requires c =
    let bs : List ℕ = c.args.input.now in
    let old : List ℕ = c.args.output.now in
    let o : Judged = c.open-opened.result in
    let e : ℕ = c.edition_for-chosen.result in
    let w : Walked = c.walk-walked.result in
    let starts : List ℕ = c.walk-walked.new.starts in
    let judged : o ≡ open_of bs = c.open-opened.ensures in
    let chosen : e ≡ edition_for bs c.args.edition = c.edition_for-chosen.ensures in
    let told : w ≡ walked_of e bs = c.walk-walked.ensures.0 in
    let is_bytes : AllBelow 256 bs = below_of_places 256 bs (λ i h. search rules) in
    let walked_few : w.count ≤ most_records = few bs is_bytes o judged _ e chosen w told in
    let starts-length : length starts ≡ most_records = c.walk-walked.auto.starts ∙ c.row-starts.ensures.0 in
    let has_room : w.end + 8 * w.count + 20 ≤ length old =
    room bs is_bytes o judged _ e chosen w told old _ c.known.ensures _ c.trace_row.ensures (ap code_of c.in_default.is) in
    let cut-length : length (take w.count starts) ≡ w.count = length-take-le w.count starts (omega (arith, walked_few, starts-length)) in (
      omega (arith, cut-length, has_room),
      omega (arith, cut-length, walked_few),
    )

pub overflow_cast-result : goal.overflow_cast-result
overflow_cast-result c =
    let bs : List ℕ = c.args.input.now in
    let o : Judged = c.open-opened.result in
    let e : ℕ = c.edition_for-chosen.result in
    let w : Walked = c.walk-walked.result in
    let judged : o ≡ open_of bs = c.open-opened.ensures in
    let chosen : e ≡ edition_for bs c.args.edition = c.edition_for-chosen.ensures in
    let told : w ≡ walked_of e bs = c.walk-walked.ensures.0 in
    let is_bytes : AllBelow 256 bs = below_of_places 256 bs (λ i h. search rules) in
    let walked_few : w.count ≤ most_records = few bs is_bytes o judged _ e chosen w told in
    omega (arith, walked_few)

pub overflow_sub-result : goal.overflow_sub-result
overflow_sub-result c =
    let bs : List ℕ = c.args.input.now in
    let o : Judged = c.open-opened.result in
    let e : ℕ = c.edition_for-chosen.result in
    let w : Walked = c.walk-walked.result in
    let judged : o ≡ open_of bs = c.open-opened.ensures in
    let chosen : e ≡ edition_for bs c.args.edition = c.edition_for-chosen.ensures in
    let told : w ≡ walked_of e bs = c.walk-walked.ensures.0 in
    let is_bytes : AllBelow 256 bs = below_of_places 256 bs (λ i h. search rules) in
    taken_inside bs is_bytes o judged _ e chosen w told _ c.taken.ensures

pub returns : goal.returns
returns c =
    let bs : List ℕ = c.args.input.now in
    let old : List ℕ = c.args.output.now in
    let o : Judged = c.open-opened.result in
    let e : ℕ = c.edition_for-chosen.result in
    let w : Walked = c.walk-walked.result in
    let starts : List ℕ = c.walk-walked.new.starts in
    let judged : o ≡ open_of bs = c.open-opened.ensures in
    let chosen : e ≡ edition_for bs c.args.edition = c.edition_for-chosen.ensures in
    let told : w ≡ walked_of e bs = c.walk-walked.ensures.0 in
    let is_bytes : AllBelow 256 bs = below_of_places 256 bs (λ i h. search rules) in (
      done bs is_bytes o judged _ e chosen w told old _ c.known.ensures _
          c.trace_row.ensures (ap code_of c.in_default.is) _ c.taken.ensures c.row-starts.result starts _ _ c.row-starts.ensures.0
          c.walk-walked.ensures.1 (c.copy.ensures ∙ ap (sets old 0) c.front.ensures) c.seal.ensures,
      is_bytes,
    )
