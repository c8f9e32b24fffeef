-- A point by value holds the numbers of its slice: three places are read one by one; m places hold the slice, and behind it +0. A loop that
-- writes a list xs from the front into m places that are +0 makes `padded m xs`: after i turns it holds `padded m (take i xs)`. Assumes
-- nothing.
use mathlib.Core.Path.{◌≡◌, refl, sym, ◌∙◌, ap}
use mathlib.Core.List.{List, [], ◌∷◌, ◌++◌}
use Prim.Native.Nat.{ℕ, suc, ◌+◌, ◌-◌, ◌≤◌, ◌<◌}
use native.Mathlib.Numerals.{add-one}
use native.Mathlib.Omega.{arith}
use lib.Ieee.{Float, nan}
use lib.ListN.{length, take, set, replicate, length-append, length-replicate, get_or-replicate, get_or-append}
use lib.Seq.{take_all, take_at, take-suc, length-take-le, append_snoc, set-append_seam, get_or-append-add}
use Rattle.double.specs.Operators.{at}
use Rattle.double.specs.Numbers.{#0}
use Rattle.cone.specs.Points.{three_of, padded}

pub three_of-three : (s : List Float) → length s ≡ 3 → three_of s ≡ s
three_of-three [] h = absurd (omega arith)
three_of-three (a ∷ []) h = absurd (omega arith)
three_of-three (a ∷ b ∷ []) h = absurd (omega arith)
three_of-three (a ∷ b ∷ c ∷ []) h = refl
three_of-three (a ∷ b ∷ c ∷ d ∷ s) h = absurd (omega arith)

module _ (m : ℕ) (xs : List Float) where
  pub padded-length : length xs ≤ m → length (padded m xs) ≡ m
  unfolding padded
  padded-length h = omega (arith, length-append xs (replicate (m - length xs) #0), length-replicate (m - length xs) #0)

  -- the list stands in front
  pub padded_front : (n : ℕ) → length xs ≡ n → take n (padded m xs) ≡ xs
  unfolding padded
  padded_front n e = take_at xs _ n e

  pub padded_place : (i : ℕ) → i < length xs → at (padded m xs) i ≡ at xs i
  unfolding padded
  padded_place i h = get_or-append xs (replicate (m - length xs) #0) nan i h

  -- 01: "those of the record's numbers are +0 after an update"
  pub padded_behind : (k : ℕ) → length xs ≤ k → k < m → at (padded m xs) k ≡ #0
  unfolding padded
  padded_behind k h l =
      let n = k - length xs in
      let e : k ≡ length xs + n = omega arith in
      ap (at (xs ++ replicate (m - length xs) #0)) e ∙ get_or-append-add xs (replicate (m - length xs) #0) n nan
      ∙ get_or-replicate (m - length xs) n #0 nan (omega arith)

  -- a number written behind the list is the list's last
  pub padded-set : (a : Float) → length xs < m → set (padded m xs) (length xs) a ≡ padded m (xs ++ (a ∷ []))
  unfolding padded
  padded-set a h =
      let n = m - suc (length xs) in
      let more : m - length xs ≡ suc n = omega arith in
      let rest : m - length (xs ++ (a ∷ [])) ≡ n = omega (arith, length-append xs (a ∷ [])) in
      ap (λ (k : ℕ). set (xs ++ replicate k #0) (length xs) a) more
      ∙ set-append_seam xs #0 (replicate n #0) a
      ∙ sym (append_snoc xs a (replicate n #0))
      ∙ ap (λ (k : ℕ). xs ++ (a ∷ []) ++ replicate k #0) (sym rest)

-- ---- a loop that writes xs from the front

pub padded-none : (m : ℕ) → replicate m #0 ≡ padded m []
unfolding padded
padded-none m = let z : m ≡ m - 0 = omega arith in ap (λ (k : ℕ). replicate k #0) z

module _ (m : ℕ) (xs : List Float) where
  pub padded-more
      : (i : ℕ) {g : List Float} {a : Float}
      → g ≡ padded m (take i xs) → a ≡ at xs i → i < length xs → i < m
      → set g i a ≡ padded m (take (i + 1) xs)
  padded-more i {a = a} f e h room =
      let long : length (take i xs) ≡ i = length-take-le i xs (omega arith) in
      ap (λ (l : List Float). set l i a) f ∙ ap (λ (k : ℕ). set (padded m (take i xs)) k a) (sym long)
      ∙ padded-set m (take i xs) a (omega (arith, long)) ∙ ap (λ (x : Float). padded m (take i xs ++ (x ∷ []))) e
      ∙ ap (padded m) (sym (take-suc xs i nan h)) ∙ ap (λ (k : ℕ). padded m (take k xs)) (sym (add-one i))

  pub padded_all : (i : ℕ) {g : List Float} → g ≡ padded m (take i xs) → length xs ≤ i → g ≡ padded m xs
  padded_all i f h = f ∙ ap (padded m) (take_all i xs h)
