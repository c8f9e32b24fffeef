-- 01: "For each, show that any two outcomes allowed by it agree". Every contract here is one equation. Assumes nothing.
use mathlib.Core.Path.{◌∙◌, sym}
use Rattle.arith.specs.Outcomes.{OneAnswer}
use Rattle.kernels.proofs.sqrt.Reads as sqrt
use Rattle.kernels.proofs.log.Reads as log
use Rattle.kernels.proofs.exp.Reads as exp
use Rattle.kernels.proofs.powf.Reads as powf
use Rattle.kernels.proofs.power.Reads as power

pub sqrt_agrees : OneAnswer sqrt.Post
sqrt_agrees κs a x y s t p q = p ∙ sym q

pub log_agrees : OneAnswer log.Post
log_agrees κs a x y s t p q = p ∙ sym q

pub exp_agrees : OneAnswer exp.Post
exp_agrees κs a x y s t p q = p ∙ sym q

pub powf_agrees : OneAnswer powf.Post
powf_agrees κs a x y s t p q = p ∙ sym q

pub power_agrees : OneAnswer power.Post
power_agrees κs a x y s t p q = p ∙ sym q
