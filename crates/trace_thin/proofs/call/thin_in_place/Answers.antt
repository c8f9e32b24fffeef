-- `thin_in_place` meets its contract: a good trace has its first of each kind chosen and moved down, list and trailer put behind them, and
-- the rest cleared. Assumes nothing.
use borrow.Author.Rules.{rules}
use mathlib.Core.Path.{◌≡◌, refl, sym, ap, ◌∙◌}
use Rattle.cone.specs.table.Table.{number_of, code_of}
use Rattle.cone.proofs.table.Settled.{number_above_0}
use mathlib.Core.Bool.{true}
use mathlib.Core.List.{List}
use Prim.Native.Nat.{ℕ, ◌+◌, ◌*◌, ◌≤◌}
use native.Mathlib.Omega.{arith}
use lib.ListN.{length, take}
use lib.Seq.{length-take-le}
use Rattle.octets.specs.words.Words.{AllBelow}
use Rattle.octets.proofs.words.Words.{below_of_places}
use Rattle.trace.specs.declared.judge.Judged.{Judged}
use Rattle.trace.specs.judge.Opening.{open_of}
use Rattle.trace_layout.specs.Traces.{most_records, good_trace}
use Rattle.trace_thin.specs.declared.firsts.Chosen.{Chosen}
use Rattle.trace_thin.specs.firsts.Firsts.{firsts_in, chosen_of}
use Rattle.trace_thin.specs.declared.call.Thinned.{Thinned}
use Rattle.trace_thin.specs.call.Thin.{Left}
use Rattle.trace_thin.proofs.call.Answers.{bounded, inside, kept_few, row-length, ahead, within-is}
use Rattle.trace_thin.proofs.call.Answers.{refused-within, good-within, done_within}
use Rattle.trace_thin.proofs.call.thin_in_place.Goals as goal

abbrev left_with : List ℕ → Thinned → Left
left_with output answer = record { answer = answer; output = output }

pub returns-in-Err : goal.returns-in-Err
returns-in-Err c =
    let bs : List ℕ = c.args.trace.now in
    let o : Judged = c.open-opened.result in
    let judged : o ≡ open_of bs = c.open-opened.ensures in
    let is_bytes : AllBelow 256 bs = below_of_places 256 bs (λ i h. search rules) in (
      ap (left_with bs) c.refused.ensures
          ∙ refused-within bs is_bytes o judged _ (sym (ap code_of c.in-Err.is) ∙ c.trace_row.ensures) (number_above_0 _),
      is_bytes,
    )

pub choose-chosen-requires : goal.choose-chosen-requires
choose-chosen-requires c =
    (omega (arith, c.row-places.ensures.0), omega (arith, c.row-numbers.ensures.0))

pub overflow_mul-length : goal.overflow_mul-length
overflow_mul-length c =
    let bs : List ℕ = c.args.trace.now in
    let o : Judged = c.open-opened.result in
    let judged : o ≡ open_of bs = c.open-opened.ensures in
    let is_bytes : AllBelow 256 bs = below_of_places 256 bs (λ i h. search rules) in
    let ch : Chosen = c.choose-chosen.result in
    let told : ch ≡ chosen_of bs (firsts_in bs o.list o.edition) = c.choose-chosen.ensures.0 in
    let small : (ch.kept ≤ most_records) × (ch.size ≤ length bs) = bounded bs is_bytes o judged ch told in
    omega (arith, small.0)

pub overflow_add-length : goal.overflow_add-length
overflow_add-length c =
    let bs : List ℕ = c.args.trace.now in
    let o : Judged = c.open-opened.result in
    let judged : o ≡ open_of bs = c.open-opened.ensures in
    let is_bytes : AllBelow 256 bs = below_of_places 256 bs (λ i h. search rules) in
    let ch : Chosen = c.choose-chosen.result in
    let told : ch ≡ chosen_of bs (firsts_in bs o.list o.edition) = c.choose-chosen.ensures.0 in
    let good : good_trace bs ≡ true = good-within bs is_bytes o judged _ c.trace_row.ensures (ap code_of c.in_default.is) in
    let has_room : ch.size + 8 * ch.kept + 20 ≤ length bs = inside bs is_bytes o judged ch told good in
    omega (arith, has_room)

pub overflow_add-length-2 : goal.overflow_add-length-2
overflow_add-length-2 c =
    let bs : List ℕ = c.args.trace.now in
    let o : Judged = c.open-opened.result in
    let judged : o ≡ open_of bs = c.open-opened.ensures in
    let is_bytes : AllBelow 256 bs = below_of_places 256 bs (λ i h. search rules) in
    let ch : Chosen = c.choose-chosen.result in
    let told : ch ≡ chosen_of bs (firsts_in bs o.list o.edition) = c.choose-chosen.ensures.0 in
    let good : good_trace bs ≡ true = good-within bs is_bytes o judged _ c.trace_row.ensures (ap code_of c.in_default.is) in
    let has_room : ch.size + 8 * ch.kept + 20 ≤ length bs = inside bs is_bytes o judged ch told good in
    omega (arith, has_room)

pub move_down-requires : goal.move_down-requires
move_down-requires c =
    let bs : List ℕ = c.args.trace.now in
    let o : Judged = c.open-opened.result in
    let judged : o ≡ open_of bs = c.open-opened.ensures in
    let is_bytes : AllBelow 256 bs = below_of_places 256 bs (λ i h. search rules) in
    let ch : Chosen = c.choose-chosen.result in
    let places : List ℕ = c.choose-chosen.new.places in
    let told : ch ≡ chosen_of bs (firsts_in bs o.list o.edition) = c.choose-chosen.ensures.0 in
    let good : good_trace bs ≡ true = good-within bs is_bytes o judged _ c.trace_row.ensures (ap code_of c.in_default.is) in
    let small : (ch.kept ≤ most_records) × (ch.size ≤ length bs) = bounded bs is_bytes o judged ch told in
    let places-length : length places ≡ most_records =
    row-length bs is_bytes o judged ch told good c.row-places.result places c.row-places.ensures.0
    c.choose-chosen.ensures.1 in (
      omega (arith, places-length, small.0),
      ahead bs is_bytes o judged ch told good c.row-places.result places
          c.row-places.ensures.0 c.choose-chosen.ensures.1,
    )

pub slice_bounds-places-end : goal.slice_bounds-places-end
slice_bounds-places-end c =
    let bs : List ℕ = c.args.trace.now in
    let o : Judged = c.open-opened.result in
    let judged : o ≡ open_of bs = c.open-opened.ensures in
    let is_bytes : AllBelow 256 bs = below_of_places 256 bs (λ i h. search rules) in
    let ch : Chosen = c.choose-chosen.result in
    let places : List ℕ = c.choose-chosen.new.places in
    let told : ch ≡ chosen_of bs (firsts_in bs o.list o.edition) = c.choose-chosen.ensures.0 in
    let good : good_trace bs ≡ true = good-within bs is_bytes o judged _ c.trace_row.ensures (ap code_of c.in_default.is) in
    let small : (ch.kept ≤ most_records) × (ch.size ≤ length bs) = bounded bs is_bytes o judged ch told in
    let places-length : length places ≡ most_records =
    row-length bs is_bytes o judged ch told good c.row-places.result places c.row-places.ensures.0
    c.choose-chosen.ensures.1 in
    let starts : List ℕ = c.move_down.new.places in
    let starts-length : length starts ≡ most_records = c.move_down.auto.places ∙ places-length in
    omega (arith, starts-length, small.0)

pub slice_bounds-seal-end : goal.slice_bounds-seal-end
slice_bounds-seal-end c =
    let bs : List ℕ = c.args.trace.now in
    let o : Judged = c.open-opened.result in
    let judged : o ≡ open_of bs = c.open-opened.ensures in
    let is_bytes : AllBelow 256 bs = below_of_places 256 bs (λ i h. search rules) in
    let ch : Chosen = c.choose-chosen.result in
    let places : List ℕ = c.choose-chosen.new.places in
    let told : ch ≡ chosen_of bs (firsts_in bs o.list o.edition) = c.choose-chosen.ensures.0 in
    let good : good_trace bs ≡ true = good-within bs is_bytes o judged _ c.trace_row.ensures (ap code_of c.in_default.is) in
    let small : (ch.kept ≤ most_records) × (ch.size ≤ length bs) = bounded bs is_bytes o judged ch told in
    let places-length : length places ≡ most_records =
    row-length bs is_bytes o judged ch told good c.row-places.result places c.row-places.ensures.0
    c.choose-chosen.ensures.1 in
    let starts : List ℕ = c.move_down.new.places in
    let starts-length : length starts ≡ most_records = c.move_down.auto.places ∙ places-length in
    let cut-length : length (take ch.kept starts) ≡ ch.kept = length-take-le ch.kept starts (omega (arith, starts-length, small.0)) in
    sym cut-length

pub seal-requires : goal.seal-requires
seal-requires c =
    let bs : List ℕ = c.args.trace.now in
    let o : Judged = c.open-opened.result in
    let judged : o ≡ open_of bs = c.open-opened.ensures in
    let is_bytes : AllBelow 256 bs = below_of_places 256 bs (λ i h. search rules) in
    let ch : Chosen = c.choose-chosen.result in
    let places : List ℕ = c.choose-chosen.new.places in
    let told : ch ≡ chosen_of bs (firsts_in bs o.list o.edition) = c.choose-chosen.ensures.0 in
    let good : good_trace bs ≡ true = good-within bs is_bytes o judged _ c.trace_row.ensures (ap code_of c.in_default.is) in
    let small : (ch.kept ≤ most_records) × (ch.size ≤ length bs) = bounded bs is_bytes o judged ch told in
    let has_room : ch.size + 8 * ch.kept + 20 ≤ length bs = inside bs is_bytes o judged ch told good in
    let places-length : length places ≡ most_records =
    row-length bs is_bytes o judged ch told good c.row-places.result places c.row-places.ensures.0
    c.choose-chosen.ensures.1 in
    let starts : List ℕ = c.move_down.new.places in
    let starts-length : length starts ≡ most_records = c.move_down.auto.places ∙ places-length in
    let cut-length : length (take ch.kept starts) ≡ ch.kept = length-take-le ch.kept starts (omega (arith, starts-length, small.0)) in
    (omega (arith, cut-length, has_room), omega (arith, cut-length, small.0))

pub overflow_cast-result : goal.overflow_cast-result
overflow_cast-result c =
    let bs : List ℕ = c.args.trace.now in
    let o : Judged = c.open-opened.result in
    let judged : o ≡ open_of bs = c.open-opened.ensures in
    let is_bytes : AllBelow 256 bs = below_of_places 256 bs (λ i h. search rules) in
    let ch : Chosen = c.choose-chosen.result in
    let told : ch ≡ chosen_of bs (firsts_in bs o.list o.edition) = c.choose-chosen.ensures.0 in
    let small : (ch.kept ≤ most_records) × (ch.size ≤ length bs) = bounded bs is_bytes o judged ch told in
    omega (arith, small.0)

pub overflow_cast-result-2 : goal.overflow_cast-result-2
overflow_cast-result-2 c =
    let bs : List ℕ = c.args.trace.now in
    let o : Judged = c.open-opened.result in
    let judged : o ≡ open_of bs = c.open-opened.ensures in
    let is_bytes : AllBelow 256 bs = below_of_places 256 bs (λ i h. search rules) in
    let ch : Chosen = c.choose-chosen.result in
    let told : ch ≡ chosen_of bs (firsts_in bs o.list o.edition) = c.choose-chosen.ensures.0 in
    let small : (ch.kept ≤ most_records) × (ch.size ≤ length bs) = bounded bs is_bytes o judged ch told in
    omega (arith, small.0)

pub overflow_sub-result : goal.overflow_sub-result
overflow_sub-result c =
    let bs : List ℕ = c.args.trace.now in
    let o : Judged = c.open-opened.result in
    let judged : o ≡ open_of bs = c.open-opened.ensures in
    let is_bytes : AllBelow 256 bs = below_of_places 256 bs (λ i h. search rules) in
    let ch : Chosen = c.choose-chosen.result in
    let told : ch ≡ chosen_of bs (firsts_in bs o.list o.edition) = c.choose-chosen.ensures.0 in
    let good : good_trace bs ≡ true = good-within bs is_bytes o judged _ c.trace_row.ensures (ap code_of c.in_default.is) in
    let no_more : ch.kept ≤ o.count = kept_few bs is_bytes o judged ch told good in
    no_more

pub returns : goal.returns
returns c =
    let bs : List ℕ = c.args.trace.now in
    let o : Judged = c.open-opened.result in
    let judged : o ≡ open_of bs = c.open-opened.ensures in
    let is_bytes : AllBelow 256 bs = below_of_places 256 bs (λ i h. search rules) in
    let ch : Chosen = c.choose-chosen.result in
    let places : List ℕ = c.choose-chosen.new.places in
    let told : ch ≡ chosen_of bs (firsts_in bs o.list o.edition) = c.choose-chosen.ensures.0 in
    let good : good_trace bs ≡ true = good-within bs is_bytes o judged _ c.trace_row.ensures (ap code_of c.in_default.is) in
    let starts : List ℕ = c.move_down.new.places in (
      done_within bs is_bytes o judged _ c.trace_row.ensures
          (ap code_of c.in_default.is) _
          (within-is bs is_bytes o judged ch told
          good c.row-places.result places
          c.row-places.ensures.0 c.choose-chosen.ensures.1 bs _ _
          starts c.move_down.ensures.0 c.move_down.ensures.1
          c.seal.ensures refl _ c.clear.ensures),
      is_bytes,
    )
