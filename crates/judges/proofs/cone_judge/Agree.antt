-- 01: "For each, show that any two outcomes allowed by it agree". Every contract here is one equation. Assumes nothing.
use mathlib.Core.Path.{◌∙◌, sym}
use Rattle.arith.specs.Outcomes.{OneAnswer}
use Rattle.judges.proofs.cone_judge.rule_ok.Reads as rule_ok
use Rattle.judges.proofs.cone_judge.tolerance_of.Reads as tolerance_of
use Rattle.judges.proofs.cone_judge.wide_ok.Reads as wide_ok
use Rattle.judges.proofs.cone_judge.three_ok.Reads as three_ok
use Rattle.judges.proofs.cone_judge.cone_ok.Reads as cone_ok

pub rule_ok_agrees : OneAnswer rule_ok.Post
rule_ok_agrees κs a x y s t p q = p ∙ sym q

pub tolerance_of_agrees : OneAnswer tolerance_of.Post
tolerance_of_agrees κs a x y s t p q = p ∙ sym q

pub wide_ok_agrees : OneAnswer wide_ok.Post
wide_ok_agrees κs a x y s t p q = p ∙ sym q

pub three_ok_agrees : OneAnswer three_ok.Post
three_ok_agrees κs a x y s t p q = p ∙ sym q

pub cone_ok_agrees : OneAnswer cone_ok.Post
cone_ok_agrees κs a x y s t p q = p ∙ sym q
