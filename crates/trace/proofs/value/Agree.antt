-- 01: "For each, show that any two outcomes allowed by it agree". Assumes nothing.
use mathlib.Core.Path.{sym, ◌∙◌}
use Rattle.arith.specs.Outcomes.{OneAnswer}
use Rattle.trace.proofs.value.Found.recorded.Reads as recorded
use Rattle.trace.proofs.value.record.Reads as recording

pub recorded_agrees : OneAnswer recorded.Post
recorded_agrees κs a x y s t p q = p ∙ sym q

pub record_agrees : OneAnswer recording.Post
record_agrees κs a x y s t p q = p ∙ sym q
