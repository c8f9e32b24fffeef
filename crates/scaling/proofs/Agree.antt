-- 01: "For each, show that any two outcomes allowed by it agree". `new_record` says by its answer whether it wrote what is made, or left what
-- was there. Assumes nothing.
use mathlib.Core.Path.{◌≡◌, refl, sym, ◌∙◌}
use Rattle.std.specs.Prelude.{Option, Some, None}
use Rattle.std.specs.Option.{MatchOption}
use Rattle.std.proofs.lemmas.Option.{none-some, same_Some}
use Rattle.cone.specs.declared.Scaling.{Scaling}
use Rattle.arith.specs.Outcomes.{OneOutcome}
use Rattle.scaling.proofs.update.new_record.Reads as update_new_record

one_record
    : (old m n : Scaling) (made : Option Scaling) (x y : Option (Unit {0}))
    → MatchOption x ((made ≡ None) × (m ≡ old)) (λ done. made ≡ Some m)
    → MatchOption y ((made ≡ None) × (n ≡ old)) (λ done. made ≡ Some n) → (x ≡ y) × (m ≡ n)
one_record old m n made None None p q = (refl, p.1 ∙ sym q.1)
one_record old m n made None (Some u) p q = absurd (none-some n (sym p.0 ∙ q))
one_record old m n made (Some u) None p q = absurd (none-some m (sym q.0 ∙ p))
one_record old m n made (Some u) (Some v) p q = (refl, same_Some m n (sym p ∙ q))

pub update_new_record_agrees : OneOutcome update_new_record.Post {A = Scaling} (λ κs s. s.0.now)
update_new_record_agrees κs a x y s t p q = one_record _ _ _ _ x y p q
