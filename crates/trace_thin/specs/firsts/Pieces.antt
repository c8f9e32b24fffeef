-- Pieces: rows of bytes that say their own lengths. Definitions only.
use Rattle.std.specs.Prelude.{ℕ, ◌+◌, ◌≤◌, List, [], ◌∷◌, ◌++◌, map, length, take, drop}
use Rattle.octets.specs.words.Words.{word_at}

-- 02, Order 1: a record begins with "the four bytes `STEP`, whole record length". The piece at the front of t, as long as it says
unfoldable pub piece_of : List ℕ → List ℕ
piece_of t = take (word_at 4 t 4) t

abbrev pub piece_at : List ℕ → ℕ → List ℕ
piece_at b place = piece_of (drop place b)

abbrev pub pieces_at : List ℕ → List ℕ → List (List ℕ)
pieces_at b places = map (piece_at b) places

-- .. at the first n of the places
abbrev pub first_at : List ℕ → ℕ → List ℕ → List (List ℕ)
first_at b n places = pieces_at b (take n places)

-- pieces end to end
unfoldable pub joined : List (List ℕ) → List ℕ
joined [] = []
joined (p ∷ ps) = p ++ joined ps

-- where each of them begins, the first at `at`
unfoldable pub offsets : ℕ → List (List ℕ) → List ℕ
offsets at [] = []
offsets at (p ∷ ps) = at ∷ offsets (at + length p) ps

-- the pieces at the places can be moved down, one after the other, the first of them to `to`: none lies before its new place, and all lie
-- in b
unfoldable pub Ahead : List ℕ → ℕ → List ℕ → Type 0
Ahead b to [] = Unit
Ahead b to (s ∷ ss) = (to ≤ s) × (s ≤ length b) × Ahead b (to + length (piece_at b s)) ss
