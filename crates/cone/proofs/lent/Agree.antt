-- 01: "For each, show that any two outcomes allowed by it agree". Every contract here is one equation. Assumes nothing.
use mathlib.Core.Path.{◌∙◌, sym}
use Rattle.arith.specs.Outcomes.{OneAnswer}
use Rattle.cone.proofs.lent.LentCone.copied.Reads as cone_copied
use Rattle.cone.proofs.lent.LentThree.copied.Reads as three_copied
use Rattle.cone.proofs.lent.LentWide.copied.Reads as wide_copied
use Rattle.cone.proofs.lent.LentScaling.copied.Reads as scaling_copied

pub cone_copied_agrees : OneAnswer cone_copied.Post
cone_copied_agrees κs a x y s t p q = p ∙ sym q

pub three_copied_agrees : OneAnswer three_copied.Post
three_copied_agrees κs a x y s t p q = p ∙ sym q

pub wide_copied_agrees : OneAnswer wide_copied.Post
wide_copied_agrees κs a x y s t p q = p ∙ sym q

pub scaling_copied_agrees : OneAnswer scaling_copied.Post
scaling_copied_agrees κs a x y s t p q = p ∙ sym q
