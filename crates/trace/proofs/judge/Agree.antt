-- 01: "For each, show that any two outcomes allowed by it agree". Assumes nothing.
use mathlib.Core.Path.{sym, ◌∙◌}
use Rattle.arith.specs.Outcomes.{OneAnswer}
use Rattle.trace.proofs.judge.known.Reads as known
use Rattle.trace.proofs.judge.trailer_at.Reads as trailer_at
use Rattle.trace.proofs.judge.open.Reads as opening

pub known_agrees : OneAnswer known.Post
known_agrees κs a x y s t p q = p ∙ sym q

pub trailer_at_agrees : OneAnswer trailer_at.Post
trailer_at_agrees κs a x y s t p q = p ∙ sym q

pub open_agrees : OneAnswer opening.Post
open_agrees κs a x y s t p q = p ∙ sym q
