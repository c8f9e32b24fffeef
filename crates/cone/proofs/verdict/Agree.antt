-- 01: "For each, show that any two outcomes allowed by it agree". Every contract here is one equation. Assumes nothing.
use mathlib.Core.Path.{◌∙◌, sym}
use Rattle.arith.specs.Outcomes.{OneAnswer}
use Rattle.cone.proofs.verdict.told.Reads as told
use Rattle.cone.proofs.verdict.is_yes.Reads as is_yes
use Rattle.cone.proofs.verdict.number.Reads as number
use Rattle.cone.proofs.verdict.power_margin.Reads as power_margin
use Rattle.cone.proofs.verdict.Verdict.refused.Reads as refused_verdict
use Rattle.cone.proofs.verdict.Residue.of.Reads as residue_of
use Rattle.cone.proofs.verdict.Residue.answer.Reads as residue_answer

pub told_agrees : OneAnswer told.Post
told_agrees κs a x y s t p q = p ∙ sym q

pub is_yes_agrees : OneAnswer is_yes.Post
is_yes_agrees κs a x y s t p q = p ∙ sym q

pub number_agrees : OneAnswer number.Post
number_agrees κs a x y s t p q = p ∙ sym q

pub power_margin_agrees : OneAnswer power_margin.Post
power_margin_agrees κs a x y s t p q = p ∙ sym q

pub residue_of_agrees : OneAnswer residue_of.Post
residue_of_agrees κs a x y s t p q = p ∙ sym q

pub residue_answer_agrees : OneAnswer residue_answer.Post
residue_answer_agrees κs a x y s t p q = p ∙ sym q

pub refused_verdict_agrees : OneAnswer refused_verdict.Post
refused_verdict_agrees κs a x y s t p q = p ∙ sym q
