-- Tests of room that say the same. Assumes nothing.
use mathlib.Core.Path.{◌≡◌, refl, sym}
use mathlib.Core.Bool.{Bool, true, false, ◌&&◌}
use Prim.Native.Nat.{ℕ, ◌≤◌, ◌<◌}
use lib.Dec.{leb, ltb}
use borrow.Author.Tests.{leb-true, leb-false, le-leb, ltb-true, ltb-false, lt-ltb, le-ltb}
use native.Mathlib.Omega.{arith}

leb_same : (x : Bool) (a b c d : ℕ) → leb a b ≡ x → (a ≤ b → c ≤ d) → (c ≤ d → a ≤ b) → x ≡ leb c d
leb_same true a b c d h to back = sym (le-leb c d (to (leb-true a b h)))
leb_same false a b c d h to back = sym (not-le (leb c d) refl)
  where
    not-le : (t : Bool) → leb c d ≡ t → leb c d ≡ false
    not-le true e = let f = back (leb-true c d e) in absurd (omega (arith, leb-false a b h))
    not-le false e = e

pub leb-moved : (a b c d : ℕ) → (a ≤ b → c ≤ d) → (c ≤ d → a ≤ b) → leb a b ≡ leb c d
leb-moved a b c d to back = leb_same (leb a b) a b c d refl to back

ltb_same : (x : Bool) (a b c d : ℕ) → ltb a b ≡ x → (a < b → c < d) → (b ≤ a → d ≤ c) → x ≡ ltb c d
ltb_same true a b c d h to back = sym (lt-ltb c d (to (ltb-true a b h)))
ltb_same false a b c d h to back = sym (le-ltb c d (back (ltb-false a b h)))

pub ltb-moved : (a b c d : ℕ) → (a < b → c < d) → (b ≤ a → d ≤ c) → ltb a b ≡ ltb c d
ltb-moved a b c d to back = ltb_same (ltb a b) a b c d refl to back

pub and-off : (a b : Bool) → b ≡ false → false ≡ (a && b)
and-off true b e = sym e
and-off false b e = refl
