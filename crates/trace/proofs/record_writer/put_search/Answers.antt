-- `put_search` meets its contract: the flag behind the start, and the settings behind the flag where it is 0. Assumes nothing.
use mathlib.Core.Path.{refl}
use mathlib.Core.List.{◌∷◌, [], ◌++◌}
use native.Mathlib.Omega.{arith}
use Rattle.octets.specs.words.Words.{le, row_bytes}
use Rattle.octets.proofs.words.Stores.{wrote_after}
use Rattle.trace.proofs.record_writer.Bits.{two-settings, no_settings}
use Rattle.trace.proofs.record_writer.put_search.Goals as goal

pub put_words-requires : goal.put_words-requires
put_words-requires c =
    (omega arith, omega (arith, two-settings _ c.if-x-eq0.true, c.requires))

pub returns-then-x-eq0 : goal.returns-then-x-eq0
unfolding le row_bytes
returns-then-x-eq0 c =
    let a = c.args in
    let l = a.bytes.now in
    let to_flag = wrote_after l _ _ a.place _ (le 8 a.x.start) (le 4 a.x.flag) c.put.ensures refl c.put-2.ensures in
    rw (two-settings _ c.if-x-eq0.true)
    (wrote_after l _ _ a.place _ (le 8 a.x.start ++ le 4 a.x.flag) (row_bytes 8 (a.x.step ∷ a.x.smallest ∷ [])) to_flag refl
    c.put_words.ensures)

pub returns-else-x-eq0 : goal.returns-else-x-eq0
unfolding le row_bytes
returns-else-x-eq0 c =
    let a = c.args in
    rw (no_settings _ c.if-x-eq0.false)
    (wrote_after a.bytes.now _ _ a.place _ (le 8 a.x.start) (le 4 a.x.flag) c.put.ensures refl c.put-2.ensures)
