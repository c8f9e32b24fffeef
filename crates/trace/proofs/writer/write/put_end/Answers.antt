-- `put_end` meets its contract: the trailer behind the entry. Assumes nothing.
use Rattle.trace_layout.specs.Traces.{trailer_of}
use Rattle.octets.proofs.words.Stores.{wrote_after}
use Rattle.octets.specs.words.Words.{le}
use mathlib.Core.Path.{refl}
use Rattle.trace.proofs.writer.write.put_end.Goals as goal

pub returns : goal.returns
unfolding le
returns c =
    let a = c.args in
    wrote_after a.bytes.now _ _ a.place _ (le 8 a.at) (trailer_of a.list a.count a.edition) c.put.ensures refl
    c.put_trailer.ensures
