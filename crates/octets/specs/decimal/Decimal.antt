-- Numbers as text: the bytes of their decimal digits. Definitions only.
use Rattle.std.specs.Prelude.{ℕ, zero, suc, ◌+◌, ◌/◌, ◌%◌, cond, List, [], ◌∷◌, ◌++◌, ltb}

-- 48 is the byte of the digit 0
abbrev pub digit : ℕ → List ℕ
digit d = (48 + d) ∷ []

-- a number of at most k digits, the highest first
unfoldable pub decimal_in : ℕ → ℕ → List ℕ
decimal_in zero n = []
decimal_in (suc k) n = cond (ltb n 10) (digit n) (decimal_in k (n / 10) ++ digit (n % 10))

-- a number of 64 bits has at most 20
abbrev pub decimal_of : ℕ → List ℕ
decimal_of n = decimal_in 20 n
