-- 01: "For each, show that any two outcomes allowed by it agree". Not here: `front` and `behind` of arith, which hand back a part of
-- the slice that they were lent; their contracts fix what the part holds, not where it lies. Assumes nothing.
use mathlib.Core.Path.{refl, sym, ◌∙◌}
use mathlib.Core.List.{List}
use Prim.Native.Nat.{ℕ}
use Rattle.arith.specs.Outcomes.{OneAnswer, OneOutcome}
use Rattle.octets.proofs.words.u64_at.Reads as u64_at
use Rattle.octets.proofs.words.u32_at.Reads as u32_at
use Rattle.octets.proofs.words.copy.Reads as copying
use Rattle.octets.proofs.words.put.Reads as put
use Rattle.octets.proofs.words.put_words.Reads as put_words

pub u64_at_agrees : OneAnswer u64_at.Post
u64_at_agrees κs a x y s t p q = p ∙ sym q

pub u32_at_agrees : OneAnswer u32_at.Post
u32_at_agrees κs a x y s t p q = p ∙ sym q

pub copy_agrees : OneOutcome copying.Post {A = List ℕ} (λ κs s. s.0.now)
copy_agrees κs a x y s t p q = (refl, p ∙ sym q)

pub put_agrees : OneOutcome put.Post {A = List ℕ} (λ κs s. s.0.now)
put_agrees κs a x y s t p q = (refl, p ∙ sym q)

pub put_words_agrees : OneOutcome put_words.Post {A = List ℕ} (λ κs s. s.0.now)
put_words_agrees κs a x y s t p q = (refl, p ∙ sym q)
