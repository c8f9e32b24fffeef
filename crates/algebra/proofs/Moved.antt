-- The length and the places of x + a·dx. Proved by the two lists. Assumes nothing.
use Rattle.std.proofs.Common.{◌≡◌, ℕ, zero, suc, ◌<◌, min, List, [], ◌∷◌, length, sym, refl, ap, ◌∙◌, le_of_suc-le-suc, not-suc-le-zero}
use native.Mathlib.Nat.{zero-min, min-zero, suc-min-suc}
use lib.Ieee.{Float}
use Rattle.double.specs.Operators.{◌⊕◌, ◌⊗◌, at}
use Rattle.algebra.specs.Vectors.{moved_of}

pub moved_length : (x : List Float) (a : Float) (dx : List Float) → length (moved_of x a dx) ≡ min (length x) (length dx)
unfolding moved_of
moved_length [] a dx = sym (zero-min (length dx))
moved_length (x ∷ xs) a [] = sym (min-zero (suc (length xs)))
moved_length (x ∷ xs) a (d ∷ dx) = ap suc (moved_length xs a dx) ∙ sym (suc-min-suc (length xs) (length dx))

pub moved_place :
    (x : List Float) (a : Float) (dx : List Float) (i : ℕ) → i < length x → i < length dx → at (moved_of x a dx) i ≡ at x i ⊕ a ⊗ at dx i
unfolding moved_of
moved_place [] a dx i h l = absurd (not-suc-le-zero h)
moved_place (x ∷ xs) a [] i h l = absurd (not-suc-le-zero l)
moved_place (x ∷ xs) a (d ∷ dx) zero h l = refl
moved_place (x ∷ xs) a (d ∷ dx) (suc i) h l = moved_place xs a dx i (le_of_suc-le-suc h) (le_of_suc-le-suc l)
