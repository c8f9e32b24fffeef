-- Every place is 0.
use Rattle.std.proofs.Common.{refl}
use Rattle.trace_sheet.proofs.rows.Summing.{zeros}
use Rattle.sheet.proofs.count_room.Goals as goal

pub returns : goal.returns
returns c = zeros 2048 refl
