-- A recorded search, run again. 02, Order 2. Definitions only.
use Rattle.std.specs.Prelude.{Bool, ◌&&◌, List, eqb, Float, take, replicate}
use Rattle.std.specs.Float.{binary64}
use Rattle.std.specs.Float.Ieee.{to_bits}
use Rattle.double.specs.Numbers.{#0}
use Rattle.cone.specs.declared.Steps.{Steps}
use Rattle.cone.specs.Codes.{numel_of}
use Rattle.call_search.specs.single.Entries.{step_length_of}
use Rattle.trace.specs.declared.value.Recorded.{Recorded}

-- "compare steps and counts bit for bit"; "Records whose cone, numbers or settings are refused count as differing"
unfoldable pub same_answers : Steps → Steps → Bool
same_answers a b =
    eqb a.code 0 && eqb (to_bits binary64 a.dualstep) (to_bits binary64 b.dualstep) && eqb a.dualcount b.dualcount
    && eqb (to_bits binary64 a.primalstep) (to_bits binary64 b.primalstep)
    && eqb a.primalcount b.primalcount

unfoldable pub blank_point : List Float
blank_point = replicate 64 #0

-- the search of the record, on points of its own
unfoldable pub rerun_of : Recorded → Steps
rerun_of r =
    let n = numel_of r.cone in
    let point = take n blank_point in
    (step_length_of r.cone (take n r.dz) (take n r.ds) (take n r.z) (take n r.s) point point r.settings).answer

unfoldable pub agrees_of : Recorded → Bool
agrees_of r = same_answers (rerun_of r) r.steps
