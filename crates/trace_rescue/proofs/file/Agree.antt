-- 01: "For each, show that any two outcomes allowed by it agree". Assumes nothing.
use mathlib.Core.Path.{◌≡◌, sym, ◌∙◌}
use mathlib.Core.List.{List}
use Prim.Native.Nat.{ℕ}
use Rattle.arith.specs.Outcomes.{OneAnswer, OneOutcome}
use Rattle.trace_rescue.proofs.file.put_rescue.Reads as put_rescue
use Rattle.trace_rescue.proofs.file.edition_of.Reads as edition_of

both : {a b c d : List ℕ} → a ≡ b → c ≡ d → ◌≡◌ {A = List ℕ × List ℕ} (a, c) (b, d)
both p q = rw (p, q)

pub put_rescue_agrees : OneOutcome put_rescue.Post {A = List ℕ × List ℕ} (λ κs s. (s.1.0.now, s.1.1.0.now))
put_rescue_agrees κs a x y s t p q = (p.0 ∙ sym q.0, both (p.1 ∙ sym q.1) (p.2 ∙ sym q.2))

pub edition_of_agrees : OneAnswer edition_of.Post
edition_of_agrees κs a x y s t p q = p ∙ sym q
