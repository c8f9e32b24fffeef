-- An update that its rows let through has a good cone, points of its length, and a serial that another follows. Assumes nothing.
use mathlib.Core.Path.{◌≡◌}
use mathlib.Core.List.{List}
use Prim.Native.Nat.{ℕ}
use lib.Ieee.{Float}
use lib.ListN.{length}
use borrow.Author.Tests.{eqb-false}
use Rattle.cone.specs.declared.Scaling.{Scaling}
use Rattle.cone.specs.Codes.{numel_of}
use Rattle.cone.specs.Calls.{WideCall}
use Rattle.judges.specs.Refusals.{last_serial}
use Rattle.cone.proofs.table.Settled.{no_fault}
use Rattle.judges.proofs.Lengths.{same_2, cone_is_ok, wide_call}
use Rattle.call_record.specs.update.Entries.{update_rows}

pub point-length : (r : Scaling) (s z : List Float) (μ : Float) (k : ℕ) → update_rows r s z μ k ≡ 0 → length z ≡ numel_of r.cone
unfolding update_rows
point-length r s z μ k e = (same_2 (numel_of r.cone) (length s) (length z) (no_fault _ e).length).1

pub update_call : (r : Scaling) (s z : List Float) (μ : Float) (k : ℕ) → update_rows r s z μ k ≡ 0 → WideCall r.cone z
unfolding update_rows
update_call r s z μ k e =
    wide_call r.cone z (cone_is_ok r.cone (no_fault _ e).cone) (point-length r s z μ k e)

pub not_last : (r : Scaling) (s z : List Float) (μ : Float) (k : ℕ) → update_rows r s z μ k ≡ 0 → r.serial ≡ last_serial → ⊥
unfolding update_rows
not_last r s z μ k e = eqb-false _ _ (no_fault _ e).spent
