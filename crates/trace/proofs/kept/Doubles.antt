-- Doubles as numbers of 64 bits, and back. Assumes nothing.
use mathlib.Core.Path.{◌≡◌, refl}
use mathlib.Core.List.{List, [], ◌∷◌, map}
use Prim.Native.Nat.{ℕ, zero, suc, ◌^◌}
use native.Mathlib.Omega.{arith}
use lib.Ieee.{Float, binary64, fits, of_bits}
use lib.ListN.{take}
use Rattle.double.proofs.RoundTrips.{pattern_lt, double_back}
use Rattle.octets.specs.words.Words.{AllBelow}
use Rattle.trace_layout.specs.pieces.Entries.{bits_of}
use Rattle.trace.specs.entries.Values.{Doubles}

pub doubles_take : (n : ℕ) (xs : List Float) → Doubles xs → Doubles (take n xs)
unfolding fits
doubles_take zero [] h i = h i
doubles_take zero (x ∷ xs) h i = tt
doubles_take (suc n) [] h i = h i
doubles_take (suc n) (x ∷ xs) h zero = h zero
doubles_take (suc n) (x ∷ xs) h (suc i) = doubles_take n xs (λ j. h (suc j)) i

pub bits_below : (xs : List Float) → Doubles xs → AllBelow (256 ^ 8) (bits_of xs)
unfolding AllBelow
bits_below [] h = tt
bits_below (x ∷ xs) h = (omega (arith, pattern_lt x (h 0)), bits_below xs (λ i. h (suc i)))

-- the doubles of their bits are the doubles
pub values_back : (xs : List Float) → Doubles xs → map (of_bits binary64) (bits_of xs) ≡ xs
values_back [] h = refl
values_back (x ∷ xs) h = rw (double_back x (h 0), values_back xs (λ i. h (suc i)))
