-- `put_word` meets its contract: the line feed behind the word. Assumes nothing.
use mathlib.Core.Path.{refl}
use native.Mathlib.Omega.{arith}
use lib.ListN.{length-append}
use Rattle.octets.proofs.words.Stores.{wrote_after}
use Rattle.octets.specs.lines.Lines.{ascii, word_line}
use Rattle.octets.proofs.lines.put_word.Goals as goal

pub returns : goal.returns
unfolding word_line
returns c =
    let a = c.args in (
      omega (arith, length-append a.word.now (ascii "\n")),
      wrote_after a.bytes.now _ _ a.place _ a.word.now (ascii "\n") c.copy.ensures refl refl,
    )
