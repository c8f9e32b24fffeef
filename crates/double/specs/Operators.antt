-- The operators of every formula of this project. 01: "each operation rounded once, left to right as the Rust is written, nothing fused".
-- Definitions only.
use Rattle.std.specs.Prelude.{ℕ, Bool, List, get_or, Float}
use Rattle.std.specs.Float.{nan, binary64}
use Rattle.std.specs.Float.Ieee.{add, sub, mul, div, lt, le}

-- Above the list's `◌∷◌` (67), so that a list of formulas needs no brackets.
infixl 75 ◌⊕◌ ◌⊖◌
infixl 80 ◌⊗◌ ◌⊘◌
infix 70 ◌≺◌ ◌≼◌
abbrev pub ◌⊕◌ : Float → Float → Float
x ⊕ y = add binary64 x y

abbrev pub ◌⊖◌ : Float → Float → Float
x ⊖ y = sub binary64 x y

abbrev pub ◌⊗◌ : Float → Float → Float
x ⊗ y = mul binary64 x y

abbrev pub ◌⊘◌ : Float → Float → Float
x ⊘ y = div binary64 x y

-- x < y, no where either is a NaN. The Rust's `a > b` is `b ≺ a`.
abbrev pub ◌≺◌ : Float → Float → Bool
x ≺ y = lt x y

-- x <= y, no where either is a NaN
abbrev pub ◌≼◌ : Float → Float → Bool
x ≼ y = le x y

-- place i, counted from 0; there is none behind the end, and no formula reads there
abbrev pub at : List Float → ℕ → Float
at s i = get_or s i nan
