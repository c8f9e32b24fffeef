-- 01: "For each, show that any two outcomes allowed by it agree". Assumes nothing.
use mathlib.Core.Path.{sym, ◌∙◌}
use Rattle.arith.specs.Outcomes.{OneAnswer}
use Rattle.trace_layout.proofs.pieces.layout.has_rule.Reads as has_rule
use Rattle.trace_layout.proofs.pieces.layout.rules_in.Reads as rules_in
use Rattle.trace_layout.proofs.pieces.layout.own_dims.Reads as own_dims
use Rattle.trace_layout.proofs.pieces.layout.exponents.Reads as exponents
use Rattle.trace_layout.proofs.pieces.layout.settings_in.Reads as settings_in
use Rattle.trace_layout.proofs.pieces.layout.flag_place.Reads as flag_place
use Rattle.trace_layout.proofs.pieces.layout.size_for.Reads as size_for_lem
use Rattle.trace_layout.proofs.pieces.layout.shape_ok.Reads as shape_ok
use Rattle.trace_layout.proofs.pieces.layout.step_ok.Reads as step_ok
use Rattle.trace_layout.proofs.pieces.layout.found_at.Reads as found_at

pub has_rule_agrees : OneAnswer has_rule.Post
has_rule_agrees κs a x y s t p q = p ∙ sym q

pub rules_in_agrees : OneAnswer rules_in.Post
rules_in_agrees κs a x y s t p q = p ∙ sym q

pub own_dims_agrees : OneAnswer own_dims.Post
own_dims_agrees κs a x y s t p q = p ∙ sym q

pub exponents_agrees : OneAnswer exponents.Post
exponents_agrees κs a x y s t p q = p ∙ sym q

pub settings_in_agrees : OneAnswer settings_in.Post
settings_in_agrees κs a x y s t p q = p ∙ sym q

pub flag_place_agrees : OneAnswer flag_place.Post
flag_place_agrees κs a x y s t p q = p ∙ sym q

pub size_for_agrees : OneAnswer size_for_lem.Post
size_for_agrees κs a x y s t p q = p ∙ sym q

pub shape_ok_agrees : OneAnswer shape_ok.Post
shape_ok_agrees κs a x y s t p q = p ∙ sym q

pub step_ok_agrees : OneAnswer step_ok.Post
step_ok_agrees κs a x y s t p q = p ∙ sym q

pub found_at_agrees : OneAnswer found_at.Post
found_at_agrees κs a x y s t p q = p ∙ sym q
