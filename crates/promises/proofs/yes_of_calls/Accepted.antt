-- What rows 1 and 2 of the table leave of a call's cone and point: the kind, the length, and exponents as the theorems of both power cones
-- ask for them. A cone that rule 2 takes, rule 1 takes (Order 9), so that one tolerance is enough. A cone in memory is one of a call.
-- Assumes nothing.
use mathlib.Core.Path.{◌≡◌, refl, sym, ◌∙◌, subst}
use mathlib.Core.Bool.{Bool, true, ◌&&◌}
use mathlib.Core.List.{List, [], ◌∷◌}
use Prim.Native.Nat.{ℕ, zero, suc, ◌+◌, ◌≤◌, ◌<◌}
use native.Mathlib.Nat.{not-suc-le-zero, le_of_suc-le-suc}
use native.Mathlib.Omega.{arith}
use lib.Dec.{T, leb}
use lib.ListN.{length, replicate, set, length-replicate, length-set}
use lib.Seq.{get_or-take}
use lib.Ieee.{Float, nan, binary64, fits, neg, of_bits}
use lib.Ieee.Bits.{of_bits-fits}
use lib.Ieee.Fits.{nan-fits}
use Rattle.arith.specs.Turns.{iter}
use Rattle.arith.proofs.Branches.{and_left, and_right}
use Rattle.double.specs.Operators.{◌⊖◌, ◌≺◌, ◌≼◌, at}
use Rattle.double.specs.Numbers.{#0, #1, #tolerance1}
use Rattle.algebra.specs.Vectors.{sum_of}
use Rattle.cone.specs.declared.Cone.{Cone}
use Rattle.cone.specs.Codes.{numel_of}
use Rattle.cone.specs.words.Words.{word, places_of, cone_of_words, cones_of}
use Rattle.judges.specs.Judges.{all_of, power_ok, exponent_ok, rule_ok, tolerance_of, rule1, sum_ok, wide_ok, three_ok, cone_ok}
use Rattle.judges.proofs.Lengths.{cone_3d, wide_passes, dim1_at-most, dim2_at-most, numel_wide, numel_3d, used_length}
use Rattle.kinds.specs.Cones.{alpha_of, alphas_of}
use Rattle.kinds.proofs.EachKind.{each_kind}
use Rattle.search.specs.plan.EachCone.{cone_at}
use Rattle.certain.specs.Coordinates as certain
use Rattle.certain.specs.power.Meaning.{Exponent}
use Rattle.certain.specs.wide.Meaning.{Exponents, Point}
use Rattle.promises.specs.rules.Entries.{under}
use Rattle.promises.proofs.rules.Tolerances.{cone_takes}
use Rattle.promises.specs.yes_of_calls.Points.{AllDoubles, Held, AllInRange}

holds : (b : Bool) → b ≡ true → T b
holds b e = subst T (sym e) tt

all_at : (p : Float → Bool) (xs : List Float) → all_of p xs ≡ true → (i : ℕ) → i < length xs → p (at xs i) ≡ true
unfolding all_of
all_at p [] t i l = absurd (not-suc-le-zero l)
all_at p (x ∷ xs) t zero l = and_left (p x) (all_of p xs) t
all_at p (x ∷ xs) t (suc i) l = all_at p xs (and_right (p x) (all_of p xs) t) i (le_of_suc-le-suc l)

-- ---- the cone

module _ (c : Cone) (ok : cone_ok c ≡ true) where
  pub some_kind : (1 ≤ c.kind) × (c.kind ≤ 3)
  some_kind =
      each_kind (λ (d : Cone). (1 ≤ d.kind) × (d.kind ≤ 3)) c.dim1 c.dim2 c.rule c.exps (omega arith, omega arith)
      (λ h. (omega arith, omega arith)) (λ h. (omega arith, omega arith)) c.kind ok

  power_ok_lem : c.kind ≡ 2 → power_ok (alpha_of c) ≡ true
  unfolding three_ok
  power_ok_lem e =
      let three = sym (cone_3d c (λ t. omega arith)) ∙ ok in
      subst (λ (k : ℕ). three_ok k (alpha_of c) ≡ true) e (and_right (rule_ok c.rule) (three_ok c.kind (alpha_of c)) three)

  wide_ok_lem : c.kind ≡ 3 → wide_ok c.dim1 c.dim2 c.exps #tolerance1 ≡ true
  unfolding tolerance_of
  wide_ok_lem e = wide_passes (under rule1 c) (cone_takes c ok) e

  module _ (held : Held c) where
    pub exponent_of_lem : c.kind ≡ 2 → Exponent (alpha_of c)
    exponent_of_lem e =
        let α = alpha_of c in
        record {
          holds = held.doubles 0 (omega (arith, held.places));
          above_0 = holds _ (and_left (#0 ≺ α) (α ≺ #1) (power_ok_lem e));
          below_1 = holds _ (and_right (#0 ≺ α) (α ≺ #1) (power_ok_lem e));
        }

    module _ (e : c.kind ≡ 3) where
      pub few_exponents : length (alphas_of c) ≡ c.dim1
      few_exponents = used_length c.dim1 c.exps held.places (dim1_at-most _ _ _ _ (wide_ok_lem e)) refl

      lengths : Bool
      lengths = leb 1 c.dim1 && leb c.dim1 32 && leb 1 c.dim2 && leb c.dim2 32

      each_ok : (i : ℕ) → i < length (alphas_of c) → exponent_ok (at (alphas_of c) i) ≡ true
      unfolding wide_ok lengths
      each_ok =
          all_at exponent_ok (alphas_of c)
          (and_right lengths (all_of exponent_ok (alphas_of c))
          (and_left (lengths && all_of exponent_ok (alphas_of c)) (sum_ok (alphas_of c) #tolerance1) (wide_ok_lem e)))

      sum_ok_lem : sum_ok (alphas_of c) #tolerance1 ≡ true
      unfolding wide_ok lengths
      sum_ok_lem = and_right (lengths && all_of exponent_ok (alphas_of c)) (sum_ok (alphas_of c) #tolerance1) (wide_ok_lem e)

      pub exponents-of : Exponents (alphas_of c)
      exponents-of =
          let α = alphas_of c in
          record {
            most = omega (arith, few_exponents, dim1_at-most _ _ _ _ (wide_ok_lem e));
            doubles = λ i l.
                let near : i < c.dim1 = omega (arith, few_exponents) in
                subst (λ (x : Float). T (fits binary64 x)) (sym (get_or-take c.dim1 c.exps i nan near))
                (held.doubles i (omega (arith, near, dim1_at-most _ _ _ _ (wide_ok_lem e), held.places)));
            above_0 = λ i l. holds _ (and_left (#0 ≺ at α i) (at α i ≼ #1) (each_ok i l));
            at_most_1 = λ i l. holds _ (and_right (#0 ≺ at α i) (at α i ≼ #1) (each_ok i l));
            sum-most = holds _ (and_left (sum_of α ⊖ #1 ≼ #tolerance1) (neg #tolerance1 ≼ sum_of α ⊖ #1) sum_ok_lem);
          }

-- ---- the cone and the point

pub record Accepted (c : Cone) (p : List Float) : Type 0 where
  pub held : Held c
  pub ok : cone_ok c ≡ true
  pub long : length p ≡ numel_of c
  pub doubles : AllDoubles p
  pub sizes : AllInRange p

module _ (c : Cone) (p : List Float) (a : Accepted c p) where
  pub three_coordinates : (c.kind ≡ 3 → ⊥) → certain.Point (at p 0) (at p 1) (at p 2)
  three_coordinates n =
      let three = a.long ∙ numel_3d c n in
      record {
        first_double = a.doubles 0 (omega (arith, three));
        second_double = a.doubles 1 (omega (arith, three));
        third_double = a.doubles 2 (omega (arith, three));
        first = a.sizes 0 (omega (arith, three));
        second = a.sizes 1 (omega (arith, three));
        third = a.sizes 2 (omega (arith, three));
      }

  pub all_coordinates : c.kind ≡ 3 → Point (alphas_of c) p
  all_coordinates e =
      let wide = wide_ok_lem c a.ok e in
      let few = few_exponents c a.ok a.held e in
      let long = a.long ∙ numel_wide c e in
      record {
        head = omega (arith, few, long);
        tail = omega (arith, few, long, dim2_at-most _ _ _ _ wide);
        doubles = a.doubles;
        sizes = a.sizes;
      }

-- ---- cones in memory

pub zeros_double : (n i : ℕ) → T (fits binary64 (at (replicate n #0) i))
zeros_double zero i = nan-fits binary64
zeros_double (suc n) zero = of_bits-fits binary64 0
zeros_double (suc n) (suc i) = zeros_double n i

set_double : (xs : List Float) (j : ℕ) (v : Float) → T (fits binary64 v) → ((i : ℕ) → T (fits binary64 (at xs i)))
    → (i : ℕ) → T (fits binary64 (at (set xs j v) i))
set_double [] j v h all i = nan-fits binary64
set_double (x ∷ xs) zero v h all zero = h
set_double (x ∷ xs) zero v h all (suc i) = all (suc i)
set_double (x ∷ xs) (suc j) v h all zero = all 0
set_double (x ∷ xs) (suc j) v h all (suc i) = set_double xs j v h (λ k. all (suc k)) i

module _ (w : List ℕ) where
  places_long : (n : ℕ) → length (places_of w n) ≡ 32
  unfolding places_of iter
  places_long zero = length-replicate 32 #0
  places_long (suc n) = length-set (places_of w n) n (of_bits binary64 (word w (n + 2))) ∙ places_long n

  places_double : (n i : ℕ) → T (fits binary64 (at (places_of w n) i))
  unfolding places_of iter
  places_double zero i = zeros_double 32 i
  places_double (suc n) i =
      set_double (places_of w n) n (of_bits binary64 (word w (n + 2))) (of_bits-fits binary64 (word w (n + 2))) (places_double n) i

  held_word : Held (cone_of_words w)
  unfolding cone_of_words
  held_word = record { places = places_long 32; doubles = λ i l. places_double 32 i }

-- each cone of a list
pub held_in_list : (ws : List (List ℕ)) (i : ℕ) → i < length (cones_of ws) → Held (cone_at (cones_of ws) i)
held_in_list [] i l = absurd (not-suc-le-zero l)
held_in_list (w ∷ ws) zero l = held_word w
held_in_list (w ∷ ws) (suc i) l = held_in_list ws i (le_of_suc-le-suc l)
