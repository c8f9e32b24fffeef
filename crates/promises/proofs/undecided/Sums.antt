-- A sum that runs from the left: one boundless term makes it boundless, terms without a sign make it unsigned, and it is a double. Assumes
-- nothing.
use mathlib.Core.Path.{◌≡◌, refl, subst}
use mathlib.Core.Bool.{Bool, true, false}
use Prim.Native.Nat.{ℕ, zero, suc, ◌<◌, ◌≤◌}
use native.Mathlib.Omega.{arith}
use lib.Dec.{T, ltb}
use lib.Count.{count_trailing_zeros}
use lib.Ieee.{Float, binary64, fits, of_bits, of_fields, odd}
use lib.Ieee.Fits.{add-fits}
use borrow.Author.Tests.{ltb-true, ltb-false}
use Rattle.arith.specs.Turns.{iter}
use Rattle.double.specs.Operators.{◌⊕◌}
use Rattle.double.specs.Numbers.{#0}
use Rattle.promises.proofs.undecided.Unsigned.{unsigned, add-unsigned}
use Rattle.promises.proofs.undecided.Boundless.{boundless, left-boundless, right_boundless}

module _ (term : ℕ → Float) where
  abbrev pub sum_to : ℕ → Float
  sum_to n = iter (λ (i : ℕ) (t : Float). t ⊕ term i) #0 n

  pub sum-boundless : (n i : ℕ) → i < n → T (boundless (term i)) → T (boundless (sum_to n))
  unfolding iter
  sum-boundless zero i h b = absurd (omega arith)
  sum-boundless (suc n) i h b = go (ltb i n) refl (λ l. sum-boundless n i l b)
    where
      here : i ≡ n → T (boundless (term n))
      here e = subst (λ (k : ℕ). T (boundless (term k))) e b

      go : (t : Bool) → ltb i n ≡ t → (i < n → T (boundless (sum_to n))) → T (boundless (sum_to n ⊕ term n))
      go true e before = left-boundless (sum_to n) (term n) (before (ltb-true i n e))
      go false e before = right_boundless (sum_to n) (term n) (here (let l : n ≤ i = ltb-false i n e in omega arith))

  pub sum-unsigned : ((i : ℕ) → T (unsigned (term i))) → (n : ℕ) → T (unsigned (sum_to n))
  unfolding iter of_bits of_fields odd count_trailing_zeros
  sum-unsigned u zero = tt
  sum-unsigned u (suc n) = add-unsigned (sum_to n) (term n) (sum-unsigned u n) (u n)

  pub sum_fits : (n : ℕ) → T (fits binary64 (sum_to n))
  unfolding iter of_bits of_fields odd count_trailing_zeros fits
  sum_fits zero = tt
  sum_fits (suc n) = add-fits binary64 (sum_to n) (term n)
