-- 01: "For each, show that any two outcomes allowed by it agree". Every contract here is one equation. Assumes nothing.
use mathlib.Core.Path.{◌∙◌, sym}
use Rattle.arith.specs.Outcomes.{OneAnswer}
use Rattle.powcone.proofs.correction.combined_ds_shift.Reads as combined_ds_shift
use Rattle.powcone.proofs.correction.higher_correction.Reads as higher_correction

pub combined_ds_shift_agrees : OneAnswer combined_ds_shift.Post
combined_ds_shift_agrees κs a x y s t p q = p ∙ sym q

pub higher_correction_agrees : OneAnswer higher_correction.Post
higher_correction_agrees κs a x y s t p q = p ∙ sym q
