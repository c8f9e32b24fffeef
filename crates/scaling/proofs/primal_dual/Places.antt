-- Two packed blocks with equal places are equal. Assumes nothing.
use mathlib.Core.Path.{◌≡◌}
use mathlib.Core.List.{[], ◌∷◌}
use lib.Ieee.{Float}

pub six
    : {a b c d e f a' b' c' d' e' f' : Float}
    → a ≡ a'
    → b ≡ b'
    → c ≡ c'
    → d ≡ d'
    → e ≡ e'
    → f ≡ f'
    → (a ∷ b ∷ c ∷ d ∷ e ∷ f ∷ []) ≡ a' ∷ b' ∷ c' ∷ d' ∷ e' ∷ f' ∷ []
six p q r s t u = cc
