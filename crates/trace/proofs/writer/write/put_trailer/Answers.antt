-- `put_trailer` meets its contract: the three numbers of four bytes behind the list's offset. Assumes nothing.
use Rattle.trace_layout.specs.Traces.{trailer_of, back_mark}
use Rattle.octets.proofs.words.Stores.{wrote_after}
use Rattle.octets.specs.words.Runs.{runs_bytes}
use Rattle.octets.specs.words.Words.{le, row_bytes}
use mathlib.Core.List.{◌∷◌, []}
use mathlib.Core.Path.{refl}
use Rattle.trace.proofs.writer.write.put_trailer.Goals as goal

pub returns : goal.returns
unfolding trailer_of runs_bytes row_bytes le
returns c =
    let a = c.args in
    wrote_after a.bytes.now _ _ a.place _ (le 8 a.list) (row_bytes 4 (a.count ∷ a.edition ∷ back_mark ∷ [])) c.put.ensures
    refl c.put_words.ensures
