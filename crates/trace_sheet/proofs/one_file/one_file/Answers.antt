-- `one_file` meets its contract: a file above the limit or a broken one leaves the rows as they were, which are fresh; of another both
-- sides are counted. Assumes nothing.
use borrow.Author.Rules.{rules}
use mathlib.Core.Path.{ap, ◌∙◌}
use mathlib.Core.Bool.{true, false}
use Prim.Native.Nat.{◌≤◌, ◌<◌}
use native.Mathlib.Omega.{arith}
use lib.ListN.{length}
use Rattle.octets.specs.words.Words.{AllBelow}
use Rattle.octets.proofs.words.Words.{below_of_places}
use Rattle.trace_layout.specs.Traces.{most_bytes}
use Rattle.trace.specs.declared.judge.Judged.{Judged}
use Rattle.trace_sheet.specs.counts.Counts.{counts_of}
use Rattle.trace_sheet.proofs.one_file.Parts.{too_large, broken, no_part, no_counts, entries_are, whole_part}
use Rattle.trace_sheet.proofs.one_file.one_file.Goals as goal

pub returns-then-bytes-gt-MOST_BYTES : goal.returns-then-bytes-gt-MOST_BYTES
returns-then-bytes-gt-MOST_BYTES c =
    let is_bytes : AllBelow 256 c.args.bytes.now =
    below_of_places 256 c.args.bytes.now (λ i h. search rules) in
    let above : most_bytes < length c.args.bytes.now = omega (arith, c.if-bytes-gt-MOST_BYTES.true) in
    let skipped = too_large c.args.bytes.now above in (
      no_part c.args.bytes.now skipped,
      no_counts c.args.bytes.now skipped false c.args.dual.now c.requires.0,
      no_counts c.args.bytes.now skipped true c.args.primal.now c.requires.1,
      is_bytes,
    )

pub returns-then-opened-ne0 : goal.returns-then-opened-ne0
returns-then-opened-ne0 c =
    let is_bytes : AllBelow 256 c.args.bytes.now =
    below_of_places 256 c.args.bytes.now (λ i h. search rules) in
    let is = c.open-opened.ensures in
    let skipped =
    broken c.args.bytes.now (λ on. c.if-opened-ne0.true (ap (λ (x : Judged). x.code) is ∙ on)) in (
      no_part c.args.bytes.now skipped,
      no_counts c.args.bytes.now skipped false c.args.dual.now c.requires.0,
      no_counts c.args.bytes.now skipped true c.args.primal.now c.requires.1,
      is_bytes,
    )

pub returns : goal.returns
returns c =
    let is_bytes : AllBelow 256 c.args.bytes.now =
    below_of_places 256 c.args.bytes.now (λ i h. search rules) in
    let bs = c.args.bytes.now in
    let few : length bs ≤ most_bytes = omega (arith, c.if-bytes-gt-MOST_BYTES.false) in
    let on = c.if-opened-ne0.false in
    let is = c.open-opened.ensures in
    let same = entries_are bs is_bytes few c.open-opened.result is on in (
      whole_part bs is_bytes few c.open-opened.result is on c.tally_side-duals.result c.tally_side-primals.result
          c.tally_side-duals.ensures.0 c.tally_side-primals.ensures.0,
      c.tally_side-duals.ensures.1 ∙ ap counts_of (same false),
      c.tally_side-primals.ensures.1 ∙ ap counts_of (same true),
      is_bytes,
    )
