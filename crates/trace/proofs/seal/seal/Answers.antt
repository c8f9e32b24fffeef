-- `seal` meets its contract: the trailer behind the list. Assumes nothing.
use native.Mathlib.Omega.{arith}
use lib.ListN.{length}
use Rattle.octets.specs.words.Words.{row_bytes}
use Rattle.octets.proofs.words.Words.{length-row_bytes}
use Rattle.octets.proofs.words.Stores.{wrote_after}
use Rattle.trace_layout.specs.Traces.{trailer_of}
use Rattle.trace.specs.seal.Seal.{seal_of}
use Rattle.trace.proofs.seal.seal.Goals as goal

pub returns : goal.returns
unfolding seal_of
returns c =
    let a = c.args in
    wrote_after a.out.now _ _ a.end _ (row_bytes 8 a.starts.now) (trailer_of a.end (length a.starts.now) a.edition)
    c.put_words.ensures (omega (arith, length-row_bytes 8 a.starts.now)) c.put_trailer.ensures
