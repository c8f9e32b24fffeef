-- The lists that 002 zips, and the arrays that hold them: the front of an array, cut back to its list; one turn of a loop that writes a zip
-- from the front; a head and a tail written one after the other. Assumes nothing.
use Rattle.std.proofs.Common.{◌≡◌, ℕ, zero, suc, ◌+◌, ◌<◌, ◌≤◌, min, List, [], ◌∷◌, ◌++◌, map, length, take, set, replicate, sym, refl, ap, ap₂, ◌∙◌, arith}
use mathlib.Core.List.{zip_with}
use lib.ListN.{length-map}
use lib.Seq.{sets}
use lib.Ieee.{Float}
use Rattle.double.specs.Operators.{◌⊖◌, ◌⊗◌, at}
use Rattle.double.specs.Numbers.{#0}
use Rattle.cone.specs.Points.{padded}
use Rattle.cone.proofs.Points.{padded-more, padded_all}
use Rattle.cone.proofs.Written.{zip_length, zip_place, head-and-tail, sets_front}
use Rattle.genpowcone.specs.loops.Places.{times, product_head, product_tail}

-- ---- a zip

module _ (f : Float → Float → Float) where
  -- what stands behind a list is not zipped, where only as many are taken
  zip_front : (xs ys zs : List Float) → take (length ys) (zip_with f xs (ys ++ zs)) ≡ zip_with f xs ys
  unfolding zip_with
  zip_front [] [] zs = refl
  zip_front [] (y ∷ ys) zs = refl
  zip_front (x ∷ xs) [] zs = refl
  zip_front (x ∷ xs) (y ∷ ys) zs = ap (λ (l : List Float). f x y ∷ l) (zip_front xs ys zs)

  pub zip_padded : (m : ℕ) (xs ys : List Float) → take (length ys) (zip_with f xs (padded m ys)) ≡ zip_with f xs ys
  unfolding padded
  zip_padded m xs ys = zip_front xs ys _

-- the fronts of two lists
pub zip_take
    : (f : Float → Float → Float) (n : ℕ) (xs ys : List Float)
    → zip_with f (take n xs) (take n ys) ≡ take n (zip_with f xs ys)
unfolding zip_with
zip_take f zero xs ys = refl
zip_take f (suc n) [] ys = refl
zip_take f (suc n) (x ∷ xs) [] = refl
zip_take f (suc n) (x ∷ xs) (y ∷ ys) = ap (λ (l : List Float). f x y ∷ l) (zip_take f n xs ys)

-- what is done to each number of either list can be done in the zip
pub zip-maps
    : (f : Float → Float → Float) (g h : Float → Float) (xs ys : List Float)
    → zip_with (λ (x y : Float). f (g x) (h y)) xs ys ≡ zip_with f (map g xs) (map h ys)
unfolding zip_with
zip-maps f g h [] ys = refl
zip-maps f g h (x ∷ xs) [] = refl
zip-maps f g h (x ∷ xs) (y ∷ ys) = ap (λ (l : List Float). f (g x) (h y) ∷ l) (zip-maps f g h xs ys)

-- ---- a loop from the front

module _
    (m : ℕ) (f : Float → Float → Float) (xs ys : List Float) (i : ℕ) {g : List Float} (so_far : g ≡ padded m (take i (zip_with f xs ys)))
  where
    -- the turn of place i, whose numbers x and y are the lists', and after which n places are written
    pub zip_more
        : i < length xs → i < length ys → i < m
        → {k n : ℕ} {x y : Float} → k ≡ i → x ≡ at xs i → y ≡ at ys i → i + 1 ≡ n
        → set g k (f x y) ≡ padded m (take n (zip_with f xs ys))
    zip_more h l room {k} {n} {x} {y} here p q next =
        ap (λ (j : ℕ). set g j (f x y)) here
        ∙ padded-more m (zip_with f xs ys) i so_far (ap₂ f p q ∙ sym (zip_place f xs ys i h l)) (omega (arith, zip_length f xs ys, h, l)) room
        ∙ ap (λ (j : ℕ). padded m (take j (zip_with f xs ys))) next

    pub zip_all : min (length xs) (length ys) ≤ i → g ≡ padded m (zip_with f xs ys)
    zip_all h = padded_all m (zip_with f xs ys) i so_far (omega (arith, zip_length f xs ys))

-- ---- two lists, one behind the other, from places that are +0

pub two-parts
    : (xs ys : List Float) (n : ℕ)
    → (0 < length ys → length xs ≡ n) → length xs ≤ 64 → n + length ys ≤ 64
    → sets (sets (replicate 64 #0) 0 xs) n ys ≡ padded 64 (xs ++ ys)
two-parts xs ys n e h k =
    ap (λ (l : List Float). sets l n ys) (sets_front 64 xs h) ∙ head-and-tail 64 xs ys n e k

-- ---- lists zipped twice

pub product-head-length
    : (d1 q : List Float) (c : Float) (x : List Float)
    → length x ≤ length d1 → length x ≤ length q → length (product_head d1 q c x) ≡ length x
product-head-length d1 q c x h k =
    omega (
      arith,
      zip_length ◌⊖◌ (zip_with ◌⊗◌ d1 x) (times c q),
      zip_length ◌⊗◌ d1 x,
      length-map q (λ (v : Float). c ⊗ v),
    )

pub product-tail-length
    : (d2 : Float) (r : List Float) (c : Float) (x : List Float) → length x ≤ length r → length (product_tail d2 r c x) ≡ length x
product-tail-length d2 r c x h =
    omega (
      arith,
      zip_length ◌⊖◌ (times d2 x) (times c r),
      length-map x (λ (v : Float). d2 ⊗ v),
      length-map r (λ (v : Float). c ⊗ v),
    )
