-- A loop that writes a list xs from place n on holds `sets g n (take i xs)` after i turns; behind a head of n places that is the head and xs.
-- Two lists zipped are as long as the shorter, place by place. Assumes nothing.
use Rattle.std.proofs.Common.{◌≡◌, ℕ, zero, suc, ◌+◌, ◌<◌, ◌≤◌, min, List, [], ◌∷◌, ◌++◌, length, take, drop, set, replicate, sym, refl, ap, ◌∙◌, append-nil, le_of_suc-le-suc, not-suc-le-zero, add-zero, add-suc, suc-add, add-one, arith, length-append, length-take-le, take_all, take-suc}
use mathlib.Core.List.{zip_with}
use native.Mathlib.Nat.{zero-min, min-zero, suc-min-suc}
use lib.Seq.{sets, append_snoc}
use lib.Ieee.{Float, nan}
use Rattle.double.specs.Operators.{at}
use Rattle.double.specs.Numbers.{#0}
use Rattle.cone.specs.Points.{padded, zip_three}
use Rattle.cone.proofs.Points.{padded-none, padded-set}

-- ---- a zip

module _ (f : Float → Float → Float) where
  pub zip_length : (xs ys : List Float) → length (zip_with f xs ys) ≡ min (length xs) (length ys)
  unfolding zip_with
  zip_length [] ys = sym (zero-min (length ys))
  zip_length (x ∷ xs) [] = sym (min-zero (suc (length xs)))
  zip_length (x ∷ xs) (y ∷ ys) = ap suc (zip_length xs ys) ∙ sym (suc-min-suc (length xs) (length ys))

  pub zip_place : (xs ys : List Float) (i : ℕ) → i < length xs → i < length ys → at (zip_with f xs ys) i ≡ f (at xs i) (at ys i)
  unfolding zip_with
  zip_place [] ys i h k = absurd (not-suc-le-zero h)
  zip_place (x ∷ xs) [] i h k = absurd (not-suc-le-zero k)
  zip_place (x ∷ xs) (y ∷ ys) zero h k = refl
  zip_place (x ∷ xs) (y ∷ ys) (suc i) h k = zip_place xs ys i (le_of_suc-le-suc h) (le_of_suc-le-suc k)

module _ (f : Float → Float → Float → Float) where
  pub three-length
      : (xs ys zs : List Float) → length (zip_three f xs ys zs) ≡ min (min (length xs) (length ys)) (length zs)
  three-length [] ys zs = omega arith
  three-length (x ∷ xs) [] zs = omega arith
  three-length (x ∷ xs) (y ∷ ys) [] = omega arith
  three-length (x ∷ xs) (y ∷ ys) (z ∷ zs) = omega (arith, three-length xs ys zs)

  pub three-place
      : (xs ys zs : List Float) (i : ℕ)
      → i < length xs → i < length ys → i < length zs
      → at (zip_three f xs ys zs) i ≡ f (at xs i) (at ys i) (at zs i)
  three-place [] ys zs i h k l = absurd (not-suc-le-zero h)
  three-place (x ∷ xs) [] zs i h k l = absurd (not-suc-le-zero k)
  three-place (x ∷ xs) (y ∷ ys) [] i h k l = absurd (not-suc-le-zero l)
  three-place (x ∷ xs) (y ∷ ys) (z ∷ zs) zero h k l = refl
  three-place (x ∷ xs) (y ∷ ys) (z ∷ zs) (suc i) h k l =
      three-place xs ys zs i (le_of_suc-le-suc h) (le_of_suc-le-suc k) (le_of_suc-le-suc l)

-- ---- a loop from place n on

sets_snoc : (g : List Float) (n : ℕ) (xs : List Float) (a : Float) → set (sets g n xs) (n + length xs) a ≡ sets g n (xs ++ (a ∷ []))
sets_snoc g n [] a = ap (λ (k : ℕ). set g k a) (add-zero n)
sets_snoc g n (x ∷ xs) a =
    let e : n + suc (length xs) ≡ suc n + length xs = add-suc n (length xs) ∙ sym (suc-add n (length xs)) in
    ap (λ (k : ℕ). set (sets (set g n x) (suc n) xs) k a) e ∙ sets_snoc (set g n x) (suc n) xs a

module _ (g₀ : List Float) (n : ℕ) (xs : List Float) (j : ℕ) {g : List Float} (so_far : g ≡ sets g₀ n (take j xs)) where
  pub sets_more : {a : Float} → a ≡ at xs j → j < length xs → set g (n + j) a ≡ sets g₀ n (take (j + 1) xs)
  sets_more {a} e h =
      let long : length (take j xs) ≡ j = length-take-le j xs (omega arith) in
      ap (λ (l : List Float). set l (n + j) a) so_far ∙ ap (λ (k : ℕ). set (sets g₀ n (take j xs)) (n + k) a) (sym long)
      ∙ sets_snoc g₀ n (take j xs) a ∙ ap (λ (x : Float). sets g₀ n (take j xs ++ (x ∷ []))) e
      ∙ ap (sets g₀ n) (sym (take-suc xs j nan h)) ∙ ap (λ (k : ℕ). sets g₀ n (take k xs)) (sym (add-one j))

  pub sets_all : length xs ≤ j → g ≡ sets g₀ n xs
  sets_all h = so_far ∙ ap (sets g₀ n) (take_all j xs h)

-- behind a head of n places; one that is shorter has no tail behind it
pub head-and-tail
    : (m : ℕ) (xs ys : List Float) (n : ℕ)
    → (0 < length ys → length xs ≡ n) → n + length ys ≤ m
    → sets (padded m xs) n ys ≡ padded m (xs ++ ys)
head-and-tail m xs [] n e h = ap (padded m) (sym (append-nil xs))
head-and-tail m xs (y ∷ ys) n e h =
    let here : length xs ≡ n = e (omega arith) in
    let more : length (xs ++ (y ∷ [])) ≡ suc (length xs) = omega (arith, length-append xs (y ∷ [])) in
    ap (λ (k : ℕ). sets (set (padded m xs) k y) (suc k) ys) (sym here)
    ∙ ap (λ (l : List Float). sets l (suc (length xs)) ys) (padded-set m xs y (omega (arith, here)))
    ∙ head-and-tail m (xs ++ (y ∷ [])) ys (suc (length xs)) (λ some. more) (omega (arith, here))
    ∙ ap (padded m) (append_snoc xs y ys)

-- from the front of places that are +0
pub sets_front : (m : ℕ) (xs : List Float) → length xs ≤ m → sets (replicate m #0) 0 xs ≡ padded m xs
sets_front m xs h = ap (λ (l : List Float). sets l 0 xs) (padded-none m) ∙ head-and-tail m [] xs 0 (λ some. refl) (omega arith)

-- what is left of a list from place i on begins with the number there
pub left-next
    : (xs : List Float) (i : ℕ) {x : Float} {rest : List Float}
    → drop i xs ≡ x ∷ rest
    → (rest ≡ drop (i + 1) xs) × (i < length xs) × (x ≡ at xs i)
left-next [] zero e = absurd (grind arith)
left-next [] (suc i) e = absurd (grind arith)
left-next (y ∷ ys) zero e = (grind arith, omega arith, grind arith)
left-next (y ∷ ys) (suc i) e =
    let more = left-next ys i e in
    let k : suc (i + 1) ≡ suc i + 1 = omega arith in
    (more.0 ∙ ap (λ (n : ℕ). drop n (y ∷ ys)) k, omega (arith, more.1), more.2)
