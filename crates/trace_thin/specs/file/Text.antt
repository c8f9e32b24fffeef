-- The lines of a thinning. Definitions only.
use Rattle.std.specs.Prelude.{ℕ, List, ◌++◌}
use Rattle.octets.specs.lines.Lines.{ascii, line_of}

-- 02, Order 13: "Report the new length, kept and dropped"
unfoldable pub thin_text : ℕ → ℕ → ℕ → List ℕ
thin_text new kept dropped = (line_of (ascii "length ") new ++ line_of (ascii "kept ") kept) ++ line_of (ascii "dropped ") dropped
