-- The places of the dual gradient and Hessian that no number stands in: each array is a list with +0 behind it, and the list is no longer than
-- the places in use. Assumes nothing.
use Rattle.std.proofs.Common.{◌≡◌, ℕ, ◌+◌, ◌<◌, ◌≤◌, Bool, true, false, cond, Some, None, List, length, drop, subst, arith, length-append, length-drop, length-take}
use Rattle.std.proofs.lemmas.Option.{none-some, same_Some}
use lib.ListN.{length-map, get_or-replicate}
use lib.Ieee.{Float, nan}
use Rattle.double.specs.Operators.{◌⊖◌, ◌≺◌, at}
use Rattle.double.specs.Numbers.{#0}
use Rattle.algebra.specs.Vectors.{sumsq_of}
use Rattle.cone.specs.Fresh.{no_wide}
use Rattle.cone.proofs.Points.{padded_behind}
use Rattle.cone.proofs.Written.{zip_length}
use Rattle.cone.specs.declared.Wide.{Wide}
use Rattle.genpowcone.specs.loops.Folds.{dual_phi}
use Rattle.genpowcone.specs.Rank3.{rank3_at}
use Rattle.genpowcone.specs.DualGradient.{update_dual_grad_h_of}

-- dim1 + dim2 places of the gradient and p are in use, dim1 of q and d1, dim2 of r
pub record UnusedZero (α z : List Float) (w : Wide) : Type 0 where
  pub grad_unused : (k : ℕ) → length z ≤ k → k < 64 → at w.grad k ≡ #0
  pub p_unused : (k : ℕ) → length z ≤ k → k < 64 → at w.p k ≡ #0
  pub q-unused : (k : ℕ) → length α ≤ k → k < 32 → at w.q k ≡ #0
  pub r-unused : (k : ℕ) → length z ≤ length α + k → k < 32 → at w.r k ≡ #0
  pub d1_unused : (k : ℕ) → length α ≤ k → k < 32 → at w.d1 k ≡ #0

module _ (α z : List Float) (n : length α ≤ length z) where
  abbrev w : List Float
  w = drop (length α) z

  tail_length : length α + length w ≡ length z
  tail_length = omega (arith, length-drop (length α) z)

  computed : (φ n2 : Float) → UnusedZero α z (rank3_at α z φ n2)
  unfolding rank3_at
  computed φ n2 =
      record {
        grad_unused = λ k h l. padded_behind 64 _ k (simp (length-append, zip_length, length-map) (omega (arith, tail_length))) l;
        p_unused = λ k h l. padded_behind 64 _ k (simp (length-append, length-map, length-take) (omega (arith, tail_length))) l;
        q-unused = λ k h l. padded_behind 32 _ k (simp (length-map, length-take) (omega arith)) l;
        r-unused = λ k h l. padded_behind 32 _ k (simp length-map (omega (arith, tail_length))) l;
        d1_unused = λ k h l. padded_behind 32 _ k (simp zip_length (omega arith)) l;
      }

  -- what a refused call keeps in its place
  pub none-unused : UnusedZero α z no_wide
  unfolding no_wide
  none-unused =
      record {
        grad_unused = λ k h l. get_or-replicate 64 k #0 nan l;
        p_unused = λ k h l. get_or-replicate 64 k #0 nan l;
        q-unused = λ k h l. get_or-replicate 32 k #0 nan l;
        r-unused = λ k h l. get_or-replicate 32 k #0 nan l;
        d1_unused = λ k h l. get_or-replicate 32 k #0 nan l;
      }

  pub unused-zero : (v : Wide) → update_dual_grad_h_of α z ≡ Some v → UnusedZero α z v
  unfolding update_dual_grad_h_of
  unused-zero = go (#0 ≺ (dual_phi α z ⊖ sumsq_of w))
    where
      made : Wide
      made = rank3_at α z (dual_phi α z) (sumsq_of w)

      go : (b : Bool) (v : Wide) → cond b (Some made) None ≡ Some v → UnusedZero α z v
      go true v e = subst (UnusedZero α z) (same_Some _ _ e) (computed (dual_phi α z) (sumsq_of w))
      go false v e = absurd (none-some v e)
