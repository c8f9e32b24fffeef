-- Pieces end to end: lengths, one more piece, and that all lie in the bytes. Assumes nothing.
use mathlib.Core.Path.{◌≡◌, refl, ap}
use mathlib.Core.List.{List, [], ◌∷◌}
use Prim.Native.Nat.{ℕ, zero, suc, ◌+◌, ◌≤◌}
use native.Mathlib.Omega.{arith}
use lib.ListN.{length, take, drop, length-append, length-take, length-drop}
use Rattle.octets.specs.words.Words.{word_at}
use Rattle.trace_thin.specs.firsts.Pieces.{piece_of, piece_at, joined, offsets}

pub size_inside : (b : List ℕ) (place : ℕ) → place ≤ length b → place + length (piece_at b place) ≤ length b
unfolding piece_of
size_inside b place h =
    let t = drop place b in omega (arith, length-take (word_at 4 t 4) t, length-drop place b)

-- as many bytes as a piece has are the piece
pub own_bytes : (t : List ℕ) → take (length (piece_of t)) t ≡ piece_of t
unfolding piece_of
own_bytes t = own (word_at 4 t 4) t
  where
    own : (n : ℕ) (x : List ℕ) → take (length (take n x)) x ≡ take n x
    own zero x = refl
    own (suc n) [] = refl
    own (suc n) (y ∷ x) = ap (λ (l : List ℕ). y ∷ l) (own n x)

pub length-joined : (p : List ℕ) (ps : List (List ℕ)) → length (joined (p ∷ ps)) ≡ length p + length (joined ps)
unfolding joined
length-joined p ps = length-append p (joined ps)

pub length-offsets : (at : ℕ) (ps : List (List ℕ)) → length (offsets at ps) ≡ length ps
unfolding offsets
length-offsets at [] = refl
length-offsets at (p ∷ ps) = ap suc (length-offsets (at + length p) ps)
