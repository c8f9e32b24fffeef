-- 01: "For each, show that any two outcomes allowed by it agree". Every contract here is one equation. Assumes nothing.
use mathlib.Core.Path.{◌∙◌, sym, refl}
use mathlib.Core.List.{List}
use lib.Ieee.{Float}
use Rattle.arith.specs.Outcomes.{OneAnswer, OneOutcome}
use Rattle.judges.proofs.Outcomes.{one_done, two_done}
use Rattle.judges.proofs.all_finite.Reads as all_finite
use Rattle.judges.proofs.sides_finite.Reads as sides_finite
use Rattle.judges.proofs.is_wide.Reads as is_IsWide
use Rattle.judges.proofs.numel.Reads as numel
use Rattle.judges.proofs.numel_of.Reads as numel_of
use Rattle.judges.proofs.settings_finite.Reads as settings_finite
use Rattle.judges.proofs.settings_ok.Reads as settings_ok
use Rattle.judges.proofs.strategy_ok.Reads as strategy_ok
use Rattle.judges.proofs.three_finite.Reads as three_finite
use Rattle.judges.proofs.wide_finite.Reads as wide_finite
use Rattle.judges.proofs.lent_finite.Reads as lent_finite
use Rattle.judges.proofs.record_finite.Reads as record_finite
use Rattle.judges.proofs.refusal.store.Reads as refusal_store
use Rattle.judges.proofs.refusal.publish.Reads as refusal_publish
use Rattle.judges.proofs.refusal.publish_two.Reads as refusal_publish_two
use Rattle.judges.proofs.refusal.finished.Reads as refusal_finished
use Rattle.judges.proofs.refusal.counted.Reads as refusal_counted

pub all_finite_agrees : OneAnswer all_finite.Post
all_finite_agrees κs a x y s t p q = p ∙ sym q

pub sides_finite_agrees : OneAnswer sides_finite.Post
sides_finite_agrees κs a x y s t p q = p ∙ sym q

pub is_wide_agrees : OneAnswer is_IsWide.Post
is_wide_agrees κs a x y s t p q = p ∙ sym q

pub numel_agrees : OneAnswer numel.Post
numel_agrees κs a x y s t p q = p ∙ sym q

pub numel_of_agrees : OneAnswer numel_of.Post
numel_of_agrees κs a x y s t p q = p ∙ sym q

pub settings_finite_agrees : OneAnswer settings_finite.Post
settings_finite_agrees κs a x y s t p q = p ∙ sym q

pub settings_ok_agrees : OneAnswer settings_ok.Post
settings_ok_agrees κs a x y s t p q = p ∙ sym q

pub strategy_ok_agrees : OneAnswer strategy_ok.Post
strategy_ok_agrees κs a x y s t p q = p ∙ sym q

pub three_finite_agrees : OneAnswer three_finite.Post
three_finite_agrees κs a x y s t p q = p ∙ sym q

pub wide_finite_agrees : OneAnswer wide_finite.Post
wide_finite_agrees κs a x y s t p q = p ∙ sym q

pub lent_finite_agrees : OneAnswer lent_finite.Post
lent_finite_agrees κs a x y s t p q = p ∙ sym q

pub record_finite_agrees : OneAnswer record_finite.Post
record_finite_agrees κs a x y s t p q = p ∙ sym q

pub refusal_store_agrees : OneOutcome refusal_store.Post {A = List Float} (λ κs s. s.0.now)
refusal_store_agrees κs a x y s t p q = (refl, p ∙ sym q)

pub refusal_publish_agrees : OneOutcome refusal_publish.Post {A = List Float} (λ κs s. s.0.now)
refusal_publish_agrees κs a x y s t p q = one_done {r = x} {s = y} (p ∙ sym q)

pub refusal_publish_two_agrees : OneOutcome refusal_publish_two.Post {A = List Float × List Float} (λ κs s. (s.0.now, s.1.0.now))
refusal_publish_two_agrees κs a x y s t p q = two_done {r = x} {s = y} (p ∙ sym q)

pub refusal_finished_agrees : OneAnswer refusal_finished.Post
refusal_finished_agrees κs a x y s t p q = p ∙ sym q

pub refusal_counted_agrees : OneAnswer refusal_counted.Post
refusal_counted_agrees κs a x y s t p q = p ∙ sym q
