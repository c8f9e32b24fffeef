-- 01: "For each, show that any two outcomes allowed by it agree". Every contract here is one equation. Assumes nothing.
use mathlib.Core.Path.{◌∙◌, sym}
use mathlib.Core.List.{List}
use lib.Ieee.{Float}
use Rattle.arith.specs.Outcomes.{OneOutcome}
use Rattle.judges.proofs.Outcomes.{one_done}
use Rattle.call_cone.proofs.copies.affine_ds.Reads as affine_ds
use Rattle.call_cone.proofs.copies.ds_from_dz_offset.Reads as ds_from_dz_offset

pub affine_ds_agrees : OneOutcome affine_ds.Post {A = List Float} (λ κs s. s.1.0.now)
affine_ds_agrees κs a x y s t p q = one_done {r = x} {s = y} (p ∙ sym q)

pub ds_from_dz_offset_agrees : OneOutcome ds_from_dz_offset.Post {A = List Float} (λ κs s. s.1.0.now)
ds_from_dz_offset_agrees κs a x y s t p q = one_done {r = x} {s = y} (p ∙ sym q)
