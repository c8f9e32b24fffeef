-- `put_thin` meets its contract: a file above the limit, a broken trace, and text and output of the answer. Assumes nothing.
use mathlib.Core.Path.{refl}
use Rattle.trace_thin.proofs.file.Answers.{written, lengths, large_printed, large_written, broken_printed, broken_written, broken_left}
use Rattle.trace_thin.proofs.file.Answers.{text_printed, output_length, output_written}
use Rattle.trace_thin.proofs.file.put_thin.Goals as goal

pub returns-then-file-gt-MOST_BYTES : goal.returns-then-file-gt-MOST_BYTES
returns-then-file-gt-MOST_BYTES c =
    let a = c.args in
    let printed = large_printed a.file.now c.if-file-gt-MOST_BYTES.true in
    let none = large_written a.file.now c.if-file-gt-MOST_BYTES.true in (
      lengths a.file.now _ _ _ _ c.put_refused.ensures.0 printed refl none,
      written a.text.now _ _ _ printed c.put_refused.ensures.1,
      written a.output.now _ _ _ none refl,
    )

pub returns-then-answer-ne0 : goal.returns-then-answer-ne0
returns-then-answer-ne0 c =
    let a = c.args in
    let bs = a.file.now in
    let told = c.thin-answer.ensures.0 in
    let bytes = c.thin-answer.ensures.1 in
    let printed = broken_printed bs c.if-file-gt-MOST_BYTES.false bytes a.output.now _ c.requires.1 _ told c.if-answer-ne0.true in
    let none = broken_written bs c.if-file-gt-MOST_BYTES.false bytes a.output.now _ c.requires.1 _ told c.if-answer-ne0.true in
    let stays = broken_left bs c.if-file-gt-MOST_BYTES.false bytes a.output.now _ c.requires.1 _ told c.if-answer-ne0.true in (
      lengths bs _ _ _ _ c.put_refused-then-answer-ne0.ensures.0 printed refl none,
      written a.text.now _ _ _ printed c.put_refused-then-answer-ne0.ensures.1,
      written a.output.now _ _ _ none stays,
    )

pub returns : goal.returns
returns c =
    let a = c.args in
    let bs = a.file.now in
    let told = c.thin-answer.ensures.0 in
    let bytes = c.thin-answer.ensures.1 in
    let printed = text_printed bs c.if-file-gt-MOST_BYTES.false bytes a.output.now _ c.requires.1 _ told c.if-answer-ne0.false in (
      lengths bs _ _ _ _ c.put_text.ensures.0 printed
          (output_length bs c.if-file-gt-MOST_BYTES.false bytes a.output.now _ c.requires.1 _ told c.if-answer-ne0.false) refl,
      written a.text.now _ _ _ printed c.put_text.ensures.1,
      output_written bs c.if-file-gt-MOST_BYTES.false bytes a.output.now _ c.requires.1 _ told c.if-answer-ne0.false,
    )
