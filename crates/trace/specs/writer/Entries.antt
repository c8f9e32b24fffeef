-- A trace with one record more: its entry in the list, and the trailer. Definitions only.
use Rattle.std.specs.Prelude.{ℕ, ◌+◌, ◌*◌, List, ◌++◌, take, drop}
use Rattle.std.proofs.lemmas.List.Edits.{sets}
use Rattle.octets.specs.words.Words.{le}
use Rattle.trace_layout.specs.Traces.{trailer_of}
use Rattle.trace_layout.specs.declared.pieces.Place.{Place}

-- the entry of the record at an offset, and the trailer
abbrev pub end_bytes : ℕ → ℕ → ℕ → ℕ → List ℕ
end_bytes at list count e = le 8 at ++ trailer_of list count e

-- one record more: the list moved up, the record's bytes in its old place, its entry and the trailer behind the list
unfoldable pub insert_of : List ℕ → Place → List ℕ → List ℕ
insert_of bs place new =
    let list = place.list in
    let entries = 8 * place.count in
    let next = list + place.size in
    sets (sets (sets bs (list + place.size) (take entries (drop list bs))) list new) (next + entries)
    (end_bytes list next (place.count + 1) place.edition)
