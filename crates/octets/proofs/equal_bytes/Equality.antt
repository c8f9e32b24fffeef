-- The test says yes of a row and itself, and of no other. Assumes nothing.
use mathlib.Core.Path.{◌≡◌, refl, ap}
use mathlib.Core.Bool.{Bool, true, false, ◌&&◌}
use mathlib.Core.List.{List, [], ◌∷◌}
use Prim.Native.Nat.{ℕ}
use lib.Dec.{eqb}
use borrow.Author.Tests.{eqb-true, eq-eqb}
use Rattle.std.specs.Str.{bytes_eq}
use Rattle.octets.specs.equal_bytes.Equal.{equal_bytes}

pub equal_itself : (xs : List ℕ) → equal_bytes xs xs ≡ true
unfolding equal_bytes
equal_itself [] = refl
equal_itself (x ∷ xs) = rw (eq-eqb x x refl) (equal_itself xs)

both : (p q : Bool) → (p && q) ≡ true → (p ≡ true) × (q ≡ true)
both true q e = (refl, e)
both false q e = (e, (cc))

pub equal_true : (xs ys : List ℕ) → equal_bytes xs ys ≡ true → xs ≡ ys
unfolding equal_bytes
equal_true [] [] e = refl
equal_true [] (y ∷ ys) e = cc
equal_true (x ∷ xs) [] e = cc
equal_true (x ∷ xs) (y ∷ ys) e =
    let p = both (eqb x y) (equal_bytes xs ys) e in
    let first : x ≡ y = eqb-true x y p.0 in
    let rest : xs ≡ ys = equal_true xs ys p.1 in
    cc

other_by : (xs ys : List ℕ) → (xs ≡ ys → ⊥) → (b : Bool) → equal_bytes xs ys ≡ b → equal_bytes xs ys ≡ false
other_by xs ys h true e = absurd (h (equal_true xs ys e))
other_by xs ys h false e = e

pub equal_false : (xs ys : List ℕ) → (xs ≡ ys → ⊥) → equal_bytes xs ys ≡ false
equal_false xs ys h = other_by xs ys h (equal_bytes xs ys) refl

-- std's comparison of slices is the same test
pub compared : (xs ys : List ℕ) → bytes_eq xs ys ≡ equal_bytes xs ys
unfolding equal_bytes
compared [] [] = refl
compared [] (y ∷ ys) = refl
compared (x ∷ xs) [] = refl
compared (x ∷ xs) (y ∷ ys) = ap (λ (b : Bool). eqb x y && b) (compared xs ys)
