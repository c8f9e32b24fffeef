-- Rows of bytes compared, and the number of a row. Definitions only.
use Rattle.std.specs.Prelude.{ℕ, ◌+◌, ◌*◌, ◌%◌, Bool, true, false, ◌&&◌, ◌||◌, List, [], ◌∷◌, eqb}

-- 02, Order 13: "byte-equal": as many bytes, and at each place the same
unfoldable pub equal_bytes : List ℕ → List ℕ → Bool
equal_bytes [] [] = true
equal_bytes [] (y ∷ ys) = false
equal_bytes (x ∷ xs) [] = false
equal_bytes (x ∷ xs) (y ∷ ys) = eqb x y && equal_bytes xs ys

-- whether a row is equal to one of several
unfoldable pub among : List ℕ → List (List ℕ) → Bool
among xs [] = false
among xs (k ∷ ks) = equal_bytes xs k || among xs ks

-- the largest prime below 2^55
abbrev pub prime : ℕ
prime = 36028797018963913

-- a row as a number in base 257, reduced by the prime. Nothing is promised of it but that equal rows have equal numbers
unfoldable pub number_from : ℕ → List ℕ → ℕ
number_from n [] = n
number_from n (x ∷ xs) = number_from ((n * 257 + x) % prime) xs

abbrev pub number_of : List ℕ → ℕ
number_of xs = number_from 0 xs
