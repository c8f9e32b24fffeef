-- What a replay prints. 02, Order 2. Definitions only.
use Rattle.std.specs.Prelude.{ℕ, List, [], ◌∷◌, ◌++◌}
use Rattle.octets.specs.lines.Lines.{ascii, line_of}

-- "one line `at OFFSET` per differing record in file order"
unfoldable pub offset_lines : List ℕ → List ℕ
offset_lines [] = []
offset_lines (at ∷ offsets) = line_of (ascii "at ") at ++ offset_lines offsets

-- "print three lines: `records N`, `same N`, `differ N`"
unfoldable pub replay_text : ℕ → ℕ → ℕ → List ℕ → List ℕ
replay_text records same differ offsets =
    ((line_of (ascii "records ") records ++ line_of (ascii "same ") same) ++ line_of (ascii "differ ") differ) ++ offset_lines offsets
