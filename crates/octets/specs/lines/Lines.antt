-- Lines of text. Definitions only.
use Rattle.std.specs.Prelude.{ℕ, ◌+◌, ◌*◌, List, [], ◌∷◌, ◌++◌}
use Prim.Native.Char.{code}
use Prim.Native.String.{String, [] as []ˢ, ◌∷◌ as ◌∷ˢ◌}
use Rattle.octets.specs.decimal.Decimal.{decimal_of}

-- the bytes of a text of ASCII characters: each one's code
abbrev pub ascii : String → List ℕ
ascii []ˢ = []
ascii (c ∷ˢ s) = code c ∷ ascii s

-- the number that they spell, the first byte lowest
abbrev pub mark : String → ℕ
mark []ˢ = 0
mark (c ∷ˢ s) = code c + 256 * mark s

-- a word, a number, and the line feed
unfoldable pub line_of : List ℕ → ℕ → List ℕ
line_of word n = (word ++ decimal_of n) ++ ascii "\n"

-- a word, and the line feed
unfoldable pub word_line : List ℕ → List ℕ
word_line word = word ++ ascii "\n"

-- 02: "prints only `refused 8`"
abbrev pub refused_text : ℕ → List ℕ
refused_text code = line_of (ascii "refused ") code
