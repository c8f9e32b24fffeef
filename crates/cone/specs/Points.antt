-- A lent slice as a point by value. Definitions only.
use Rattle.std.specs.Prelude.{List, [], ◌∷◌, ◌++◌, Float, length, replicate, ℕ, ◌-◌}
use Rattle.double.specs.Operators.{at}
use Rattle.double.specs.Numbers.{#0}

-- Of kinds 1 and 2: the first three places. A slice that passes row 2 of the table has no others, and this is the slice itself
-- (proofs/Points).
abbrev pub three_of : List Float → List Float
three_of s = at s 0 ∷ at s 1 ∷ at s 2 ∷ []

-- An array of m places whose first ones are in use: xs, and +0 behind it. So are the arrays of kind 3, of a record and of a trace.
-- 01: "Places that a kind does not use are neither read nor judged, and those of the record's numbers are +0 after an update"
unfoldable pub padded : ℕ → List Float → List Float
padded m xs = xs ++ replicate (m - length xs) #0

-- h of each three numbers, up to the end of the shortest list
abbrev pub zip_three : (Float → Float → Float → Float) → List Float → List Float → List Float → List Float
zip_three h [] ys zs = []
zip_three h (x ∷ xs) [] zs = []
zip_three h (x ∷ xs) (y ∷ ys) [] = []
zip_three h (x ∷ xs) (y ∷ ys) (z ∷ zs) = h x y z ∷ zip_three h xs ys zs
