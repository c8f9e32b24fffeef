-- The generalized power cone, both sides, of any lists of exponents and coordinates: a margin has no sign, and is boundless where a
-- coordinate is not finite: one of the heads makes the sum of logarithms boundless, one of the tail the sumsq. Assumes nothing.
use mathlib.Core.Path.{◌≡◌, refl, sym, subst, ap, ◌∙◌}
use mathlib.Core.Bool.{Bool, true, false, not, ◌&&◌}
use mathlib.Core.List.{List, [], ◌∷◌}
use Prim.Native.Nat.{ℕ, zero, suc, ◌+◌, ◌-◌, ◌<◌, ◌≤◌, min}
use native.Mathlib.Omega.{arith}
use lib.Dec.{T, ltb}
use lib.ListN.{length, take, drop, length-take, length-drop}
use lib.Seq.{get_or-take, get_or-drop}
use lib.Ieee.{Float, nan}
use lib.Ieee.Fits.{and_l, and_r}
use lib.Ieee.Scale.{finite}
use borrow.Author.Tests.{ltb-true, ltb-false}
use Rattle.arith.specs.Turns.{iter}
use Rattle.arith.proofs.Branches.{false_not_true}
use Rattle.double.specs.Operators.{◌⊗◌, ◌⊘◌, ◌≺◌, ◌≼◌, at}
use Rattle.double.specs.Numbers.{#0, #1, #2}
use Rattle.kernels.specs.Door.{log_of, exp_of}
use Rattle.cone.specs.verdict.Margins.{power_margin}
use Rattle.algebra.specs.Vectors.{sumsq_of}
use Rattle.judges.specs.Judges.{all_of, all_finite, exponent_ok}
use Rattle.genpowcone.specs.loops.Folds.{above_zero_turn, all_above_zero, primal_log_sum, dual_log_sum}
use Rattle.genpowcone.specs.Feasible.{residue_at, primal_residue, primal_margin, dual_residue, dual_margin, signs}
use Rattle.promises.proofs.undecided.Unsigned.{unsigned, mul-unsigned, square_unsigned, of-above}
use Rattle.promises.proofs.undecided.Boundless.{boundless, square_boundless}
use Rattle.promises.proofs.undecided.Kernels.{exp_boundless, exp_unsigned}
use Rattle.promises.proofs.undecided.Sums.{sum-boundless, sum-unsigned, sum_fits}
use Rattle.promises.proofs.undecided.Power.{two-unsigned, margin-unsigned, power-boundless, sumsq_boundless}
use Rattle.promises.proofs.undecided.Power.{term-boundless, quotient-boundless}

-- ---- a place where a list is not finite, and what holds at each place

record Place (s : List Float) : Type 0 where
  pub i : ℕ
  pub within : i < length s
  pub there : T (not (finite (at s i)))

find : (s : List Float) → all_finite s ≡ false → Place s
unfolding all_of
find [] e = absurd (false_not_true (sym e))
find (x ∷ xs) e = go (finite x) refl e (find xs)
  where
    go : (b : Bool) → finite x ≡ b → (b && all_finite xs) ≡ false → (all_finite xs ≡ false → Place xs) → Place (x ∷ xs)
    go true q f rest = let p = rest f in record { i = suc p.i; within = omega (arith, p.within); there = p.there }
    go false q f rest = record { i = 0; within = omega arith; there = subst (λ (t : Bool). T (not t)) (sym q) tt }

every_exponent : (α : List Float) → T (all_of exponent_ok α) → (i : ℕ) → i < length α → T (unsigned (at α i))
unfolding all_of
every_exponent [] ok i h = absurd (omega arith)
every_exponent (x ∷ xs) ok zero h = of-above x (and_l (#0 ≺ x) (x ≼ #1) (and_l (exponent_ok x) (all_of exponent_ok xs) ok))
every_exponent (x ∷ xs) ok (suc i) h = every_exponent xs (and_r (exponent_ok x) (all_of exponent_ok xs) ok) i (omega arith)

all_above : (xs : List Float) (n i : ℕ) → i < n → T (iter (above_zero_turn xs) true n) → T (#0 ≺ at xs i)
unfolding iter
all_above xs zero i h t = absurd (omega arith)
all_above xs (suc n) i h t = go (ltb i n) refl (λ l. all_above xs n i l (and_l (iter (above_zero_turn xs) true n) (#0 ≺ at xs n) t))
  where
    here : i ≡ n → T (#0 ≺ at xs i)
    here e = subst (λ (k : ℕ). T (#0 ≺ at xs k)) (sym e) (and_r (iter (above_zero_turn xs) true n) (#0 ≺ at xs n) t)

    go : (b : Bool) → ltb i n ≡ b → (i < n → T (#0 ≺ at xs i)) → T (#0 ≺ at xs i)
    go true e before = before (ltb-true i n e)
    go false e before = here (let l : n ≤ i = ltb-false i n e in omega arith)

module _ (α s : List Float) where
  -- a head passes its sign test
  head-above : T (signs α s) → (i : ℕ) → i < length α → i < length s → T (#0 ≺ at s i)
  unfolding signs all_above_zero
  head-above h i a b =
      subst (λ (x : Float). T (#0 ≺ x)) (get_or-take (length α) s i nan a)
      (all_above (take (length α) s) (length (take (length α) s)) i (omega (arith, a, b, length-take (length α) s)) h)

  -- a place of the tail
  tail_place : (i : ℕ) → length α ≤ i → i < length s → T (not (finite (at s i))) → T (boundless (sumsq_of (drop (length α) s)))
  unfolding sumsq_of
  tail_place i a b n =
      let t = drop (length α) s in
      let k = i - length α in
      sum-boundless (λ (j : ℕ). at t j ⊗ at t j) (length t) k (omega (arith, a, b, length-drop (length α) s))
      (square_boundless (at t k)
      (subst (λ (x : Float). T (not (finite x))) (sym (get_or-drop (length α) s k nan ∙ moved i (length α) a)) n))
    where
      moved : (i m : ℕ) → m ≤ i → at s (m + (i - m)) ≡ at s i
      moved i m l = let back : m + (i - m) ≡ i = omega arith in ap (at s) back

  tail_unsigned : T (unsigned (sumsq_of (drop (length α) s)))
  unfolding sumsq_of
  tail_unsigned = let t = drop (length α) s in sum-unsigned (λ (i : ℕ). at t i ⊗ at t i) (λ i. square_unsigned (at t i)) (length t)

  abbrev primal_term : ℕ → Float
  primal_term i = #2 ⊗ at α i ⊗ log_of (at s i)

  abbrev dual_term : ℕ → Float
  dual_term i = #2 ⊗ at α i ⊗ log_of (at s i ⊘ at α i)

  -- how many terms a sum has
  abbrev terms : ℕ
  terms = min (length α) (length s)

  pub primal_unsigned : T (unsigned (primal_margin α s))
  unfolding primal_margin primal_residue residue_at primal_log_sum
  primal_unsigned = margin-unsigned _ _ (exp_unsigned _ (sum_fits primal_term terms)) tail_unsigned

  pub dual-unsigned : T (unsigned (dual_margin α s))
  unfolding dual_margin dual_residue residue_at dual_log_sum
  dual-unsigned = margin-unsigned _ _ (exp_unsigned _ (sum_fits dual_term terms)) tail_unsigned

  -- a head that is not finite makes e boundless
  abbrev ByHeads : Float → Type 0
  ByHeads e = (i : ℕ) → i < length α → i < length s → T (not (finite (at s i))) → T (boundless e)

  by_heads_or_tail : (e : Float) → ByHeads e → all_finite s ≡ false → T (boundless (power_margin e (sumsq_of (drop (length α) s))))
  by_heads_or_tail e by_heads n = go (ltb p.i (length α)) refl
    where
      p : Place s
      p = find s n

      go : (t : Bool) → ltb p.i (length α) ≡ t → T (boundless (power_margin e (sumsq_of (drop (length α) s))))
      go true l = power-boundless e _ (by_heads p.i (ltb-true _ _ l) p.within p.there)
      go false l = sumsq_boundless e _ (tail_place p.i (ltb-false _ _ l) p.within p.there)

  module _ (ok : T (all_of exponent_ok α)) (h : T (signs α s)) where
    weight : (i : ℕ) → i < length α → T (unsigned (#2 ⊗ at α i))
    weight i a = mul-unsigned #2 (at α i) two-unsigned (every_exponent α ok i a)

    primal_heads : ByHeads (exp_of (primal_log_sum α s))
    unfolding primal_log_sum
    primal_heads i a b n =
        exp_boundless _ (sum-boundless primal_term terms i (omega (arith, a, b))
        (term-boundless (#2 ⊗ at α i) (at s i) (weight i a) (head-above h i a b) n))

    dual-heads : ByHeads (exp_of (dual_log_sum α s))
    unfolding dual_log_sum
    dual-heads i a b n =
        exp_boundless _ (sum-boundless dual_term terms i (omega (arith, a, b))
        (quotient-boundless (#2 ⊗ at α i) (at s i) (at α i) (weight i a) (every_exponent α ok i a) (head-above h i a b) n))

    pub primal_boundless : all_finite s ≡ false → T (boundless (primal_margin α s))
    unfolding primal_margin primal_residue residue_at
    primal_boundless = by_heads_or_tail (exp_of (primal_log_sum α s)) primal_heads

    pub dual-boundless : all_finite s ≡ false → T (boundless (dual_margin α s))
    unfolding dual_margin dual_residue residue_at
    dual-boundless = by_heads_or_tail (exp_of (dual_log_sum α s)) dual-heads
