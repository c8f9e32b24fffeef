-- Three lists of one kind read side by side, where the second is as long as the first: how many turns a zip of them takes, and what it gives
-- in each. Assumes nothing.
use Rattle.std.proofs.Common.{◌≡◌, ℕ, ◌<◌, min, List, length, get_or, ap, ◌∙◌, arith}
use lib.Ieee.{Float, nan}
use Rattle.std.specs.List.{zip}
use Rattle.std.proofs.lemmas.List.{get_or_default}
use Rattle.std.proofs.lemmas.Slice.Zip.{length-zip, get_or-zip}
use Rattle.double.specs.Operators.{at}

module _ (xs ys zs : List Float) (same : length ys ≡ length xs) where
  pub two_turns : length (zip xs ys) ≡ length xs
  two_turns = omega (arith, length-zip xs ys)

  pub three_turns : length (zip (zip xs ys) zs) ≡ min (length xs) (length zs)
  three_turns = length-zip (zip xs ys) zs ∙ ap (λ (n : ℕ). min n (length zs)) two_turns

  -- turn i gives the three numbers of place i
  pub three_places
      : (i : ℕ) (p : (Float × Float) × Float)
      → i < length (zip (zip xs ys) zs)
      → p ≡ get_or (zip (zip xs ys) zs) i p
      → (p.0.0 ≡ at xs i) × (p.0.1 ≡ at ys i) × (p.1 ≡ at zs i)
  three_places i p h e =
      let n : i < min (length xs) (length zs) = omega (arith, three_turns) in
      let a : i < length xs = omega arith in
      let b : i < length ys = omega arith in
      let c : i < length zs = omega arith in
      let q = e ∙ get_or-zip (zip xs ys) zs i p (omega (arith, two_turns)) c in
      let r = ap (λ (u : (Float × Float) × Float). u.0) q ∙ get_or-zip xs ys i p.0 a b in (
        ap (λ (u : Float × Float). u.0) r ∙ get_or_default xs i _ nan a,
        ap (λ (u : Float × Float). u.1) r ∙ get_or_default ys i _ nan b,
        ap (λ (u : (Float × Float) × Float). u.1) q ∙ get_or_default zs i _ nan c,
      )
