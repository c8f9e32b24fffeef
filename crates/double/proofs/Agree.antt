-- 01: "For each, show that any two outcomes allowed by it agree". Every contract here is one equation. Assumes nothing.
use mathlib.Core.Path.{◌∙◌, sym}
use Rattle.arith.specs.Outcomes.{OneAnswer}
use Rattle.double.proofs.nan.Reads as nan
use Rattle.double.proofs.is_finite.Reads as is_finite
use Rattle.double.proofs.abs.Reads as abs
use Rattle.double.proofs.of_bits.Reads as of_bits
use Rattle.double.proofs.to_bits.Reads as to_bits
use Rattle.double.proofs.normal_of_low.Reads as normal_of_low

pub nan_agrees : OneAnswer nan.Post
nan_agrees κs a x y s t p q = p ∙ sym q

pub is_finite_agrees : OneAnswer is_finite.Post
is_finite_agrees κs a x y s t p q = p ∙ sym q

pub abs_agrees : OneAnswer abs.Post
abs_agrees κs a x y s t p q = p ∙ sym q

pub of_bits_agrees : OneAnswer of_bits.Post
of_bits_agrees κs a x y s t p q = p ∙ sym q

pub to_bits_agrees : OneAnswer to_bits.Post
to_bits_agrees κs a x y s t p q = p ∙ sym q

pub normal_of_low_agrees : OneAnswer normal_of_low.Post
normal_of_low_agrees κs a x y s t p q = p ∙ sym q
