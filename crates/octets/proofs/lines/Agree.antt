-- 01: "For each, show that any two outcomes allowed by it agree". Assumes nothing.
use mathlib.Core.Path.{sym, ◌∙◌}
use mathlib.Core.List.{List}
use Prim.Native.Nat.{ℕ}
use Rattle.arith.specs.Outcomes.{OneOutcome}
use Rattle.octets.proofs.lines.put_line.Reads as put_line
use Rattle.octets.proofs.lines.put_word.Reads as put_word
use Rattle.octets.proofs.lines.put_refused.Reads as Put_refused

pub put_line_agrees : OneOutcome put_line.Post {A = List ℕ} (λ κs s. s.0.now)
put_line_agrees κs a x y s t p q = (p.0 ∙ sym q.0, p.1 ∙ sym q.1)

pub put_word_agrees : OneOutcome put_word.Post {A = List ℕ} (λ κs s. s.0.now)
put_word_agrees κs a x y s t p q = (p.0 ∙ sym q.0, p.1 ∙ sym q.1)

pub put_refused_agrees : OneOutcome Put_refused.Post {A = List ℕ} (λ κs s. s.0.now)
put_refused_agrees κs a x y s t p q = (p.0 ∙ sym q.0, p.1 ∙ sym q.1)
