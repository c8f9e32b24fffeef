-- A row of doubles read into an array of m places, one a turn: after i turns the first i stand there and the others are +0. Assumes
-- nothing.
use mathlib.Core.Path.{◌≡◌, refl, ap, ◌∙◌}
use mathlib.Core.List.{List, [], ◌∷◌}
use Prim.Native.Nat.{ℕ, zero, suc, ◌+◌, ◌*◌, ◌<◌, ◌≤◌}
use native.Mathlib.Omega.{arith}
use lib.Ieee.{Float, nan, binary64, of_bits}
use lib.ListN.{length, take, get_or, set, replicate}
use Rattle.double.specs.Numbers.{#0}
use Rattle.cone.specs.Points.{padded}
use Rattle.cone.proofs.Points.{padded-none, padded-more, padded_all}
use Rattle.octets.specs.words.Words.{word_at, row_of}
use Rattle.octets.proofs.words.Words.{length-row_of}
use Rattle.octets.proofs.words.Runs.{row_number}
use Rattle.trace.specs.value.Recorded.{values_of, row_in}

pub length_values : (ws : List ℕ) → length (values_of ws) ≡ length ws
length_values [] = refl
length_values (w ∷ ws) = ap suc (length_values ws)

value_at_lem : (ws : List ℕ) (i : ℕ) → i < length ws → of_bits binary64 (get_or ws i 0) ≡ get_or (values_of ws) i nan
value_at_lem [] i h = absurd (omega arith)
value_at_lem (w ∷ ws) zero h = refl
value_at_lem (w ∷ ws) (suc i) h = value_at_lem ws i (omega arith)

abbrev pub so_far : ℕ → ℕ → List ℕ → ℕ → List Float
so_far m n t i = padded m (take i (values_of (row_of 8 n t)))

module _ (m n : ℕ) (t : List ℕ) where
  abbrev vs : List Float
  vs = values_of (row_of 8 n t)

  vs_length : length vs ≡ n
  vs_length = length_values (row_of 8 n t) ∙ length-row_of 8 n t

  pub row-none : replicate m #0 ≡ so_far m n t 0
  row-none = padded-none m

  pub row_more : (i : ℕ) (row : List Float) (v : Float) → i < n → n ≤ m → row ≡ so_far m n t i → v ≡ of_bits binary64 (word_at 8 t (8 * i))
      → set row i v ≡ so_far m n t (i + 1)
  row_more i row v h room far value =
      let here : v ≡ get_or vs i nan =
      value ∙ ap (of_bits binary64) (row_number 8 n t i h) ∙ value_at_lem (row_of 8 n t) i (omega (arith, length-row_of 8 n t)) in
      padded-more m vs i far here (omega (arith, vs_length)) (omega arith)

  pub row_all : (i : ℕ) (row : List Float) → i ≤ n → n ≤ i → row ≡ so_far m n t i → row ≡ row_in m n t
  unfolding row_in
  row_all i row h g far = padded_all m vs i far (omega (arith, vs_length))
