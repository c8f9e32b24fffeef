-- 01: "For each, show that any two outcomes allowed by it agree". Every contract here is one equation. Assumes nothing.
use mathlib.Core.Path.{◌∙◌, sym}
use Rattle.arith.specs.Outcomes.{OneAnswer}
use Rattle.cone.proofs.words.low_half.Reads as low_half
use Rattle.cone.proofs.words.high_half.Reads as high_half
use Rattle.cone.proofs.words.places.Reads as places
use Rattle.cone.proofs.words.cone_of.Reads as cone_of

pub low_half_agrees : OneAnswer low_half.Post
low_half_agrees κs a x y s t p q = p ∙ sym q

pub high_half_agrees : OneAnswer high_half.Post
high_half_agrees κs a x y s t p q = p ∙ sym q

pub places_agrees : OneAnswer places.Post
places_agrees κs a x y s t p q = p ∙ sym q

pub cone_of_agrees : OneAnswer cone_of.Post
cone_of_agrees κs a x y s t p q = p ∙ sym q
