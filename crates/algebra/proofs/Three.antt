-- A list of three places is those places, written out. Assumes nothing.
use Rattle.std.proofs.Common.{◌≡◌, List, [], ◌∷◌, length, refl, arith}
use lib.Ieee.{Float}
use Rattle.double.specs.Operators.{at}

pub three-places : (s : List Float) → length s ≡ 3 → s ≡ at s 0 ∷ at s 1 ∷ at s 2 ∷ []
three-places [] h = absurd (omega arith)
three-places (a ∷ []) h = absurd (omega arith)
three-places (a ∷ b ∷ []) h = absurd (omega arith)
three-places (a ∷ b ∷ c ∷ []) h = refl
three-places (a ∷ b ∷ c ∷ d ∷ s) h = absurd (omega arith)
