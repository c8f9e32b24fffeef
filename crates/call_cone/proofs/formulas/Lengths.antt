-- A call that rows 1 and 2 let through lends slices of the cone's length. Assumes nothing.
use mathlib.Core.Path.{◌≡◌}
use mathlib.Core.Bool.{true}
use mathlib.Core.List.{List}
use Prim.Native.Nat.{ℕ}
use lib.Ieee.{Float}
use lib.ListN.{length}
use Rattle.cone.specs.declared.Cone.{Cone}
use Rattle.cone.specs.Codes.{numel_of}
use Rattle.judges.specs.Judges.{cone_ok}
use Rattle.cone.specs.Calls.{WideCall}
use Rattle.cone.proofs.table.Settled.{no_fault}
use Rattle.judges.proofs.Lengths.{same_1, same_2, cone_is_ok, wide_call}
use Rattle.call_cone.specs.formulas.Rows.{read_faults, read_rows, unit_faults, unit_rows}

pub read-call : (c : Cone) (s : List Float) → read_rows c s ≡ 0 → WideCall c s
unfolding read_faults
read-call c s e =
    let let_through = no_fault (read_faults c s) e in
    wide_call c s (cone_is_ok c let_through.cone) (same_1 (numel_of c) (length s) let_through.length)

pub unit_lengths : (c : Cone) (z s : ℕ) → unit_rows c z s ≡ 0 → (cone_ok c ≡ true) × (z ≡ numel_of c) × (s ≡ numel_of c)
unfolding unit_faults
unit_lengths c z s e =
    let let_through = no_fault (unit_faults c z s) e in
    let l = same_2 (numel_of c) z s let_through.length in
    (cone_is_ok c let_through.cone, l.0, l.1)
