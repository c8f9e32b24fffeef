-- A call that rows 1 and 2 let through lends slices of one length, and none longer than the arrays. Assumes nothing.
use mathlib.Core.Path.{◌≡◌, sym, ◌∙◌}
use mathlib.Core.List.{List}
use Prim.Native.Nat.{ℕ, ◌≤◌}
use native.Mathlib.Omega.{arith}
use lib.Ieee.{Float}
use lib.ListN.{length}
use Rattle.cone.specs.declared.Cone.{Cone}
use Rattle.cone.specs.Codes.{numel_of}
use Rattle.cone.proofs.table.Settled.{no_fault}
use Rattle.judges.proofs.Lengths.{same_2, same_3, cone_is_ok, numel_at_most}
use Rattle.call_cone.specs.copies.Rows.{copy_faults, copy_rows, offset_faults, offset_rows}

pub copy_length : (c : Cone) (out : ℕ) (s : List Float) → copy_rows c out s ≡ 0 → (length s ≡ out) × (length s ≤ 64)
unfolding copy_faults
copy_length c out s e =
    let let_through = no_fault (copy_faults c out s) e in
    let l = same_2 (numel_of c) out (length s) let_through.length in
    (l.1 ∙ sym l.0, omega (arith, numel_at_most c (cone_is_ok c let_through.cone)))

pub offset_length : (c : Cone) (out : ℕ) (ds z : List Float) → offset_rows c out ds z ≡ 0 → length ds ≡ out
unfolding offset_faults
offset_length c out ds z e =
    let l = same_3 (numel_of c) out (length ds) (length z) (no_fault (offset_faults c out ds z) e).length in
    l.1 ∙ sym l.0
