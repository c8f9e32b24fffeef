-- A cone of kind 3 that row 1 takes has dims of at most 32. Assumes nothing.
use mathlib.Core.Path.{◌≡◌}
use mathlib.Core.Bool.{false}
use Prim.Native.Nat.{◌≤◌}
use borrow.Author.Tests.{not-false}
use Rattle.arith.proofs.Branches.{and_right}
use Rattle.cone.specs.declared.Cone.{Cone}
use Rattle.judges.specs.Judges.{rule_ok}
use Rattle.judges.proofs.Lengths.{dim1_at-most, dim2_at-most}
use Rattle.call_record.specs.wide_rows.Rows.{bad_wide}

pub small_dims : (c : Cone) → bad_wide c ≡ false → (c.dim1 ≤ 32) × (c.dim2 ≤ 32)
small_dims c e =
    let ok = and_right (rule_ok c.rule) _ (not-false _ e) in
    (dim1_at-most _ _ c.exps _ ok, dim2_at-most _ _ c.exps _ ok)
