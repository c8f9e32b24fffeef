-- 01: "For each, show that any two outcomes allowed by it agree". Assumes nothing.
use mathlib.Core.Path.{sym, ◌∙◌}
use Rattle.arith.specs.Outcomes.{OneAnswer}
use Rattle.trace_layout.proofs.rooms.row.Reads as row
use Rattle.trace_layout.proofs.rooms.file_room.Reads as file_room

pub row_agrees : OneAnswer row.Post
row_agrees κs a x y s t p q = p.1 ∙ sym q.1

pub file_room_agrees : OneAnswer file_room.Post
file_room_agrees κs a x y s t p q = p.1 ∙ sym q.1
