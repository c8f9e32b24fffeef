-- 01: "For each, show that any two outcomes allowed by it agree". Not here: the four methods of
-- a Reader, whose contracts say each field of their answer. Assumes nothing.
use mathlib.Core.Path.{sym, ◌∙◌}
use Rattle.arith.specs.Outcomes.{OneAnswer}
use Rattle.trace.proofs.reader.current_in.Reads as current_in
use Rattle.trace.proofs.reader.place_in.Reads as IsPlace_in

pub current_in_agrees : OneAnswer current_in.Post
current_in_agrees κs a x y s t p q = p ∙ sym q

pub place_in_agrees : OneAnswer IsPlace_in.Post
place_in_agrees κs a x y s t p q = p ∙ sym q
