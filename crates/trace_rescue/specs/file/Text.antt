-- The lines of a rescue. Definitions only.
use Rattle.std.specs.Prelude.{ℕ, Bool, cond, List, ◌++◌}
use Rattle.octets.specs.lines.Lines.{ascii, line_of, word_line}

-- 02, Order 7: "whether list and trailer were rebuilt or already right"
unfoldable pub verdict_line : Bool → List ℕ
verdict_line right = cond right (word_line (ascii "right")) (word_line (ascii "rebuilt"))

-- 02, Order 7: "report records kept, bytes dropped, and whether list and trailer were rebuilt or already right"
unfoldable pub rescue_text : ℕ → ℕ → Bool → List ℕ
rescue_text kept dropped right = (line_of (ascii "kept ") kept ++ line_of (ascii "dropped ") dropped) ++ verdict_line right
