-- 01: "For each, show that any two outcomes allowed by it agree". Every contract here is one equation. Assumes nothing.
use mathlib.Core.Path.{◌∙◌, sym}
use Rattle.arith.specs.Outcomes.{OneAnswer}
use Rattle.root.proofs.table_root.sqrt.Reads as sqrt

pub sqrt_agrees : OneAnswer sqrt.Post
sqrt_agrees κs a x y s t p q = p ∙ sym q
