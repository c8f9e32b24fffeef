-- By kind, an entry's definition is that of `blocks`, of `three`, of `wide_primal` or of `wide`: judges, lengths and
-- formulas are those of the kind. Assumes nothing.
use Prim.Native.Nat.{ℕ}
use mathlib.Core.Path.{◌≡◌, refl}
use mathlib.Core.Bool.{Bool, true, false, ◌||◌, ◌&&◌, not}
use mathlib.Core.List.{List}
use lib.Dec.{eqb}
use lib.Ieee.{Float}
use lib.Ieee.Scale.{finite}
use lib.ListN.{length}
use borrow.Author.Tests.{eq-eqb, ne_eqb, eqb-true, eqb-false}
use Rattle.cone.specs.declared.Scaling.{Scaling}
use Rattle.judges.specs.Judges.{rule_ok, cone_ok, three_ok, three_finite, all_finite}
use Rattle.cone.specs.table.Table.{first_row}
use Rattle.judges.specs.Refusals.{other_length, never_scaled, other_serial, judged_of}
use Rattle.judges.proofs.Lengths.{cone_wide, cone_3d, record_wide, record_3d, numel_wide, numel_3d, block_wide, block_3d}
use Rattle.kinds.specs.Cones.{alpha_of}
use Rattle.call_record.specs.Rows.{record_rows}
use Rattle.call_record.specs.blocks.Blocks as blocks
use Rattle.call_record.specs.three.Entries as three
use Rattle.call_record.specs.wide_primal.Entries as primal
use Rattle.call_record.specs.wide.Entries as wide
use Rattle.call_record.specs.entries.Rows.{gradient_rows, barrier_rows, compute_rows, block_rows, product_rows, correction_rows}
use Rattle.call_record.specs.entries.Entries.{gradient_primal_of, primal_barrier_of, barrier_primal_of, combined_barrier_of, compute_barrier_of}
use Rattle.call_record.specs.entries.Entries.{get_hs_of, mul_hs_of, higher_correction_of, combined_ds_shift_of}

-- ---- kinds 1 and 2

module _ (r : Scaling) (k : r.cone.kind ≡ 3 → ⊥) where
  pub gradient-primal-3D : (g s : List Float) → three.gradient_primal_of r g s ≡ gradient_primal_of r g s
  unfolding three.gradient_primal_of gradient_primal_of gradient_rows
  gradient-primal-3D g s = simp (ne_eqb _ _ k, cone_3d r.cone k, numel_3d r.cone k, record_3d r k)

  pub barrier_primal_3d : (s : List Float) → three.barrier_primal_of r s ≡ barrier_primal_of r s
  unfolding three.barrier_primal_of barrier_primal_of primal_barrier_of barrier_rows
  barrier_primal_3d s = simp (ne_eqb _ _ k, cone_3d r.cone k, numel_3d r.cone k, record_3d r k)

  pub compute-barrier-3D
      : (z s dz ds : List Float) (step : Float) → three.compute_barrier_of r z s dz ds step ≡ compute_barrier_of r z s dz ds step
  unfolding three.compute_barrier_of compute_barrier_of combined_barrier_of compute_rows
  compute-barrier-3D z s dz ds step = simp (ne_eqb _ _ k, cone_3d r.cone k, numel_3d r.cone k, record_3d r k)

  pub get-hs-3D : (serial : ℕ) (block : List Float) → blocks.get_hs_of r serial block ≡ get_hs_of r serial block
  unfolding blocks.get_hs_of get_hs_of block_rows
  get-hs-3D serial block = simp (ne_eqb _ _ k, cone_3d r.cone k, block_3d r.cone k, record_3d r k)

  pub mul-hs-3D : (serial : ℕ) (y x : List Float) → blocks.mul_hs_of r serial y x ≡ mul_hs_of r serial y x
  unfolding blocks.mul_hs_of mul_hs_of product_rows
  mul-hs-3D serial y x = simp (ne_eqb _ _ k, cone_3d r.cone k, numel_3d r.cone k, record_3d r k)

-- ---- kind 3

module _ (r : Scaling) (k : r.cone.kind ≡ 3) where
  pub gradient-primal-wide : (g s : List Float) → primal.gradient_primal_of r g s ≡ gradient_primal_of r g s
  unfolding primal.gradient_primal_of gradient_primal_of gradient_rows
  gradient-primal-wide g s = simp (eq-eqb _ _ k, cone_wide r.cone k, numel_wide r.cone k, record_wide r k)

  pub barrier-primal-wide : (s : List Float) → primal.barrier_primal_of r s ≡ barrier_primal_of r s
  unfolding primal.barrier_primal_of barrier_primal_of primal_barrier_of barrier_rows judged_of
  barrier-primal-wide s = simp (eq-eqb _ _ k, cone_wide r.cone k, numel_wide r.cone k, record_wide r k)

  pub compute-barrier-wide
      : (z s dz ds : List Float) (step : Float) → wide.compute_barrier_of r z s dz ds step ≡ compute_barrier_of r z s dz ds step
  unfolding wide.compute_barrier_of compute_barrier_of combined_barrier_of compute_rows judged_of
  compute-barrier-wide z s dz ds step = simp (eq-eqb _ _ k, cone_wide r.cone k, numel_wide r.cone k, record_wide r k)

  pub get-hs-wide : (serial : ℕ) (block : List Float) → wide.get_hs_of r serial block ≡ get_hs_of r serial block
  unfolding wide.get_hs_of get_hs_of block_rows
  get-hs-wide serial block = simp (eq-eqb _ _ k, cone_wide r.cone k, block_wide r.cone k, record_wide r k)

  pub mul-hs-wide : (serial : ℕ) (y x : List Float) → wide.mul_hs_of r serial y x ≡ mul_hs_of r serial y x
  unfolding wide.mul_hs_of mul_hs_of product_rows
  mul-hs-wide serial y x = simp (eq-eqb _ _ k, cone_wide r.cone k, numel_wide r.cone k, record_wide r k)

-- ---- kinds 1 and 2 alone: for kind 3 both sides give 1

or_true : (b : Bool) → (b || true) ≡ true
or_true true = refl
or_true false = refl

or_false : (b : Bool) → (b || false) ≡ b
or_false true = refl
or_false false = refl

and_false : (b : Bool) → (b && false) ≡ false
and_false true = refl
and_false false = refl

module _ (r : Scaling) (serial : ℕ) where
  abbrev rows : Bool → Bool → ℕ
  rows lengths numbers =
      record_rows (blocks.bad_three r.cone) lengths (not (numbers && three_finite r.three)) (never_scaled r)
      (other_serial serial r)

  module _ (out : ℕ) (a b : List Float) (numbers : Bool) where
    abbrev lengths : Bool
    lengths = not (eqb out 3) || other_length 3 a || other_length 3 b

    rows_wide : r.cone.kind ≡ 3 → rows lengths numbers ≡ correction_rows r serial out a b numbers
    unfolding correction_rows first_row three_ok
    rows_wide k = simp (k, and_false (rule_ok r.cone.rule), or_true (not (cone_ok r.cone)))

    rows_3d : (r.cone.kind ≡ 3 → ⊥) → rows lengths numbers ≡ correction_rows r serial out a b numbers
    unfolding correction_rows
    rows_3d k =
        let ok = rule_ok r.cone.rule && three_ok r.cone.kind (alpha_of r.cone) in
        simp (ne_eqb _ _ k, cone_3d r.cone k, or_false (not ok), record_3d r k)

    rows_of : (is3 : Bool) → eqb r.cone.kind 3 ≡ is3 → rows lengths numbers ≡ correction_rows r serial out a b numbers
    rows_of true e = rows_wide (eqb-true _ _ e)
    rows_of false e = rows_3d (eqb-false _ _ e)

  pub higher-correction-3D
      : (η ds v : List Float)
      → three.higher_correction_of r serial η ds v ≡ higher_correction_of r serial η ds v
  unfolding three.higher_correction_of higher_correction_of
  higher-correction-3D η ds v = simp (rows_of (length η) ds v (all_finite ds && all_finite v) (eqb r.cone.kind 3) refl)

  pub combined-ds-shift-3D
      : (out stepz steps : List Float) (σμ : Float)
      → three.combined_ds_shift_of r serial out stepz steps σμ ≡ combined_ds_shift_of r serial out stepz steps σμ
  unfolding three.combined_ds_shift_of combined_ds_shift_of
  combined-ds-shift-3D out stepz steps σμ =
      simp (rows_of (length out) stepz steps (all_finite stepz && all_finite steps && finite σμ) (eqb r.cone.kind 3) refl)
