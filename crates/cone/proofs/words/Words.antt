-- The exponent places are the words from 2 on, as far as they are read; and a cone is read back from its words. Assumes nothing.
use mathlib.Core.Path.{◌≡◌, refl, sym, ap, ◌∙◌, subst}
use mathlib.Core.Logic.{inl, inr}
use mathlib.Core.List.{List, [], ◌∷◌, map}
use Prim.Native.Nat.{ℕ, zero, suc, ◌+◌, ◌*◌, ◌^◌, ◌≤◌, ◌<◌}
use native.Mathlib.Nat.{add_comm, le_of_suc-le-suc, eq-or-lt_of_le}
use native.Mathlib.Numerals.{add-one}
use native.Mathlib.Omega.{arith}
use lib.Dec.{T}
use lib.ListN.{length, take, drop, get_or, length-set, length-replicate, length-map, length-drop, get_or-map}
use lib.Seq.{take-set-le, get_or-drop}
use lib.Ieee.{Float, binary64, fits, of_bits, to_bits}
use lib.Ieee.Bits.{of_bits-to_bits}
use Rattle.arith.specs.Turns.{iter}
use Rattle.arith.proofs.Filling.{fill_more, fill_end}
use Rattle.double.specs.Numbers.{#0}
use Rattle.cone.specs.declared.Cone.{Cone}
use Rattle.cone.specs.words.Words.{word, low_half, high_half, place_turn, places_of, cone_of_words, words_of}

-- places that are read later change none in front
places_stay : (w : List ℕ) (n m : ℕ) → n ≤ m → take n (places_of w m) ≡ take n (places_of w n)
unfolding places_of iter
places_stay w n zero l = let none : 0 ≡ n = omega arith in ap (λ (k : ℕ). take n (places_of w k)) none
places_stay w n (suc m) l =
    elim (eq-or-lt_of_le l) [
      | inl e ↦ ap (λ (k : ℕ). take n (places_of w k)) (sym e)
      | inr h ↦ take-set-le n (places_of w m) m _ (le_of_suc-le-suc h) ∙ places_stay w n m (le_of_suc-le-suc h)
    ]

pub places_same : (w : List ℕ) (n : ℕ) → n ≤ 32 → take n (places_of w n) ≡ take n (places_of w 32)
places_same w n l = sym (places_stay w n 32 l)

-- what the exponent places hold
abbrev pub values_in : List ℕ → List Float
values_in w = map (of_bits binary64) (drop 2 w)

module _ (w : List ℕ) (sized : length w ≡ 34) where
  values_length : length (values_in w) ≡ 32
  values_length = omega (arith, length-map (drop 2 w) (of_bits binary64), length-drop 2 w)

  place_is : (i : ℕ) → of_bits binary64 (word w (i + 2)) ≡ get_or (values_in w) i (of_bits binary64 0)
  place_is i =
      sym (get_or-map (of_bits binary64) (drop 2 w) i 0 ∙ ap (of_bits binary64) (get_or-drop 2 w i 0 ∙ ap (word w) (add_comm 2 i)))

  pub places-length : (n : ℕ) → length (places_of w n) ≡ 32
  unfolding places_of iter
  places-length zero = length-replicate 32 #0
  places-length (suc n) = length-set (places_of w n) n _ ∙ places-length n

  pub places_front : (n : ℕ) → n ≤ 32 → take n (places_of w n) ≡ take n (values_in w)
  unfolding places_of iter
  places_front zero l = refl
  places_front (suc n) l =
      subst (λ (k : ℕ). take k (place_turn w n (places_of w n)) ≡ take k (values_in w)) (add-one n)
      (fill_more (places_of w n) (values_in w) n (of_bits binary64 (word w (n + 2))) (of_bits binary64 0) (omega (arith, places-length n))
      (omega (arith, values_length)) (places_front n (omega arith)) (place_is n))

  pub places_all : places_of w 32 ≡ values_in w
  places_all = fill_end (places_of w 32) (values_in w) 32 (places-length 32) values_length (places_front 32 (omega arith))

-- ---- a cone read back from its words

-- what holds of every cone of a call: numbers of 32 bits, 32 places, and doubles in them
pub record Whole (c : Cone) : Type 0 where
  pub kind : c.kind < 2 ^ 32
  pub dim1 : c.dim1 < 2 ^ 32
  pub dim2 : c.dim2 < 2 ^ 32
  pub rule : c.rule < 2 ^ 32
  pub sized : length c.exps ≡ 32
  pub doubles : (i : ℕ) → i < length c.exps → T (fits binary64 (get_or c.exps i #0))

values_back : (xs : List Float) → ((i : ℕ) → i < length xs → T (fits binary64 (get_or xs i #0)))
    → map (of_bits binary64) (map (to_bits binary64) xs) ≡ xs
values_back [] h = refl
values_back (x ∷ xs) h =
    ap (λ (y : Float). y ∷ map (of_bits binary64) (map (to_bits binary64) xs)) (of_bits-to_bits binary64 x (h 0 (omega arith)))
    ∙ ap (λ (l : List Float). x ∷ l) (values_back xs (λ i l. h (suc i) (omega arith)))

low_back : (a b : ℕ) → a < 2 ^ 32 → low_half (a + 2 ^ 32 * b) ≡ a
low_back a b h = omega arith

high_back : (a b : ℕ) → a < 2 ^ 32 → high_half (a + 2 ^ 32 * b) ≡ b
high_back a b h = omega arith

pub cone_back : (c : Cone) → Whole c → cone_of_words (words_of c) ≡ c
unfolding cone_of_words words_of
cone_back c h =
    let sized = length-map c.exps (to_bits binary64) in
    let places = places_all (words_of c) (omega (arith, sized, h.sized)) ∙ values_back c.exps h.doubles in
    made (low_back c.kind c.dim1 h.kind) (high_back c.kind c.dim1 h.kind)
    (low_back c.dim2 c.rule h.dim2) (high_back c.dim2 c.rule h.dim2) places
  where
    cone : ℕ → ℕ → ℕ → ℕ → List Float → Cone
    cone k d e r xs = record { kind = k; dim1 = d; dim2 = e; rule = r; exps = xs }

    made : {k d e r : ℕ} {xs : List Float} → k ≡ c.kind → d ≡ c.dim1 → e ≡ c.dim2 → r ≡ c.rule → xs ≡ c.exps → cone k d e r xs ≡ c
    made {d = d} {e = e} {r = r} {xs = xs} p q s t u =
        ap (λ (n : ℕ). cone n d e r xs) p ∙ ap (λ (n : ℕ). cone c.kind n e r xs) q ∙ ap (λ (n : ℕ). cone c.kind c.dim1 n r xs) s
        ∙ ap (λ (n : ℕ). cone c.kind c.dim1 c.dim2 n xs) t
        ∙ ap (cone c.kind c.dim1 c.dim2 c.rule) u
