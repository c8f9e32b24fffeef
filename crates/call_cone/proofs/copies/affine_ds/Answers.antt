-- A call that its rows refuse leaves with their number, one that they let through copies s. Assumes nothing.
use mathlib.Core.Path.{◌∙◌, sym, ap, refl}
use mathlib.Core.List.{List}
use lib.Ieee.{Float}
use Rattle.std.proofs.lemmas.Result.{err_from_is_err_and}
use Rattle.cone.proofs.table.Settled.{number_above_0, refused, done}
use Rattle.call_cone.proofs.copies.Lengths.{copy_length}
use Rattle.call_cone.specs.copies.Entries.{affine_ds_of}
use Rattle.call_cone.proofs.copies.affine_ds.Goals as goal

pub returns-in_err-copy_rows : goal.returns-in_err-copy_rows
unfolding affine_ds_of
returns-in_err-copy_rows c =
    let p = err_from_is_err_and c.from_residual.result c.from_residual.ensures.1 in
    rw (p.1, p.2) (refused _ _ _ _ c.in_err-copy_rows.ensures (number_above_0 _))

pub store-requires : goal.store-requires
store-requires c = (copy_length _ _ _ (sym c.in_ok-copy_rows.ensures)).0

pub returns : goal.returns
unfolding affine_ds_of
returns c =
    ap (λ (l : List Float). record { answer = 0; slice = l }) c.store.ensures
    ∙ done _ _ _ _ c.in_ok-copy_rows.ensures refl
