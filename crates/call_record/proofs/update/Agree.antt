-- 01: "For each, show that any two outcomes allowed by it agree". Every contract here is one equation. Assumes nothing.
use mathlib.Core.Path.{◌∙◌, sym}
use Rattle.arith.specs.Outcomes.{OneAnswer}
use Rattle.call_record.proofs.update.update_in_place.Reads as update_in_place
use Rattle.call_record.proofs.update.update_scaling.Reads as update_scaling

pub update_scaling_agrees : OneAnswer update_scaling.Post
update_scaling_agrees κs a x y s t p q = p ∙ sym q

pub update_in_place_agrees : OneAnswer update_in_place.Post
update_in_place_agrees κs a x y s t p q = p ∙ sym q
