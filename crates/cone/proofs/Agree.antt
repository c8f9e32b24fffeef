-- 01: "For each, show that any two outcomes allowed by it agree". Every contract here is one equation. Assumes nothing.
use mathlib.Core.Path.{◌∙◌, sym}
use Rattle.arith.specs.Outcomes.{OneAnswer}
use Rattle.cone.proofs.empty_cone.Reads as empty_cone
use Rattle.cone.proofs.no_three.Reads as no_three
use Rattle.cone.proofs.no_wide.Reads as no_wide
use Rattle.cone.proofs.fresh.Reads as fresh
use Rattle.cone.proofs.attempted.Reads as attempted
use Rattle.cone.proofs.house_settings.Reads as house_settings
use Rattle.cone.proofs.house_strategy.Reads as house_strategy
use Rattle.cone.proofs.Number.refused.Reads as refused_number
use Rattle.cone.proofs.Rounds.refused.Reads as refused_rounds
use Rattle.cone.proofs.Found.refused.Reads as refused_found
use Rattle.cone.proofs.Steps.refused.Reads as refused_steps
use Rattle.cone.proofs.three_of.Reads as three_of
use Rattle.cone.proofs.wide_of.Reads as wide_of

pub empty_cone_agrees : OneAnswer empty_cone.Post
empty_cone_agrees κs a x y s t p q = p ∙ sym q

pub no_three_agrees : OneAnswer no_three.Post
no_three_agrees κs a x y s t p q = p ∙ sym q

pub no_wide_agrees : OneAnswer no_wide.Post
no_wide_agrees κs a x y s t p q = p ∙ sym q

pub fresh_agrees : OneAnswer fresh.Post
fresh_agrees κs a x y s t p q = p ∙ sym q

pub attempted_agrees : OneAnswer attempted.Post
attempted_agrees κs a x y s t p q = p ∙ sym q

pub house_settings_agrees : OneAnswer house_settings.Post
house_settings_agrees κs a x y s t p q = p ∙ sym q

pub house_strategy_agrees : OneAnswer house_strategy.Post
house_strategy_agrees κs a x y s t p q = p ∙ sym q

pub three_of_agrees : OneAnswer three_of.Post
three_of_agrees κs a x y s t p q = p ∙ sym q

pub wide_of_agrees : OneAnswer wide_of.Post
wide_of_agrees κs a x y s t p q = p ∙ sym q

pub refused_number_agrees : OneAnswer refused_number.Post
refused_number_agrees κs a x y s t p q = p ∙ sym q

pub refused_rounds_agrees : OneAnswer refused_rounds.Post
refused_rounds_agrees κs a x y s t p q = p ∙ sym q

pub refused_found_agrees : OneAnswer refused_found.Post
refused_found_agrees κs a x y s t p q = p ∙ sym q

pub refused_steps_agrees : OneAnswer refused_steps.Post
refused_steps_agrees κs a x y s t p q = p ∙ sym q
