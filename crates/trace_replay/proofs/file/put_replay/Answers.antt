-- `put_replay` meets its contract: a file above the limit, a broken trace, and the text of the answer. Assumes nothing.
use mathlib.Core.Path.{◌≡◌, refl, sym, ap, ◌∙◌}
use mathlib.Core.List.{List}
use Prim.Native.Nat.{ℕ, ◌≤◌}
use native.Mathlib.Omega.{arith}
use lib.ListN.{length, take}
use lib.Seq.{sets, length-take-le}
use Rattle.trace_layout.specs.Traces.{most_bytes, most_records}
use Rattle.trace_replay.specs.declared.call.Replayed.{Replayed}
use Rattle.trace_replay.proofs.file.Answers.{too_large, refusal_told, differ_few, done_text}
use Rattle.trace_replay.proofs.file.put_replay.Goals as goal

-- a text that was written, told as another that equals it
written : (old exit text printed : List ℕ) (r : ℕ) → text ≡ printed → (r ≡ length text) × (exit ≡ sets old 0 text)
    → (r ≡ length printed) × (exit ≡ sets old 0 printed)
written old exit text printed r e w = (w.0 ∙ ap length e, w.1 ∙ ap (sets old 0) e)

pub returns-then-file-gt-MOST_BYTES : goal.returns-then-file-gt-MOST_BYTES
returns-then-file-gt-MOST_BYTES c =
    written c.args.text.now _ _ _ _ (too_large c.args.file.now c.if-file-gt-MOST_BYTES.true) c.put_refused.ensures

pub returns-then-answer-ne0 : goal.returns-then-answer-ne0
returns-then-answer-ne0 c =
    let file : List ℕ = c.args.file.now in
    let answer : Replayed = c.replay-answer.result in
    let offsets : List ℕ = c.replay-answer.new.at in
    let row : List ℕ = c.row-offsets.result in
    let places : length row ≡ most_records = c.row-offsets.ensures.0 in
    let small : length file ≤ most_bytes = c.if-file-gt-MOST_BYTES.false in
    written c.args.text.now _ _ _ _
    (refusal_told file row offsets answer c.replay-answer.ensures
    places small c.if-answer-ne0.true)
    c.put_refused-then-answer-ne0.ensures

pub slice_bounds-offsets-end : goal.slice_bounds-offsets-end
slice_bounds-offsets-end c =
    let file : List ℕ = c.args.file.now in
    let answer : Replayed = c.replay-answer.result in
    let offsets : List ℕ = c.replay-answer.new.at in
    let row : List ℕ = c.row-offsets.result in
    let places : length row ≡ most_records = c.row-offsets.ensures.0 in
    let exit_places : length offsets ≡ most_records = c.replay-answer.auto.at ∙ places in
    let small : length file ≤ most_bytes = c.if-file-gt-MOST_BYTES.false in
    let few : answer.differ ≤ most_records =
    differ_few file row offsets answer c.replay-answer.ensures places
    small c.if-answer-ne0.false in
    omega (arith, few, exit_places)

pub slice_bounds-put_text-end : goal.slice_bounds-put_text-end
slice_bounds-put_text-end c =
    let file : List ℕ = c.args.file.now in
    let answer : Replayed = c.replay-answer.result in
    let offsets : List ℕ = c.replay-answer.new.at in
    let row : List ℕ = c.row-offsets.result in
    let places : length row ≡ most_records = c.row-offsets.ensures.0 in
    let exit_places : length offsets ≡ most_records = c.replay-answer.auto.at ∙ places in
    let small : length file ≤ most_bytes = c.if-file-gt-MOST_BYTES.false in
    let few : answer.differ ≤ most_records =
    differ_few file row offsets answer c.replay-answer.ensures places
    small c.if-answer-ne0.false in
    let cut-length : length (take answer.differ offsets) ≡ answer.differ =
    length-take-le answer.differ offsets (omega (arith, few, exit_places)) in
    sym cut-length

pub put_text-requires : goal.put_text-requires
put_text-requires c =
    let file : List ℕ = c.args.file.now in
    let answer : Replayed = c.replay-answer.result in
    let offsets : List ℕ = c.replay-answer.new.at in
    let row : List ℕ = c.row-offsets.result in
    let places : length row ≡ most_records = c.row-offsets.ensures.0 in
    let exit_places : length offsets ≡ most_records = c.replay-answer.auto.at ∙ places in
    let small : length file ≤ most_bytes = c.if-file-gt-MOST_BYTES.false in
    let few : answer.differ ≤ most_records =
    differ_few file row offsets answer c.replay-answer.ensures places
    small c.if-answer-ne0.false in
    let cut-length : length (take answer.differ offsets) ≡ answer.differ =
    length-take-le answer.differ offsets (omega (arith, few, exit_places)) in
    omega (arith, few, cut-length, c.requires)

pub returns : goal.returns
returns c =
    let file : List ℕ = c.args.file.now in
    let answer : Replayed = c.replay-answer.result in
    let offsets : List ℕ = c.replay-answer.new.at in
    let row : List ℕ = c.row-offsets.result in
    let places : length row ≡ most_records = c.row-offsets.ensures.0 in
    let small : length file ≤ most_bytes = c.if-file-gt-MOST_BYTES.false in
    written c.args.text.now _ _ _ _
    (done_text file row offsets answer c.replay-answer.ensures places small c.if-answer-ne0.false _ refl)
    c.put_text.ensures
