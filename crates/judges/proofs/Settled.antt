-- A call whose new record rows 6 and 7 refuse leaves with their number, any other with what is made of that record. Assumes nothing.
use mathlib.Core.Path.{◌≡◌, refl, sym, ap, ◌∙◌}
use Prim.Native.Nat.{ℕ}
use native.Mathlib.Omega.{arith}
use Rattle.std.specs.Prelude.{Option, Some, None}
use Rattle.std.proofs.lemmas.Option.{none-some, same_Some}
use Rattle.cone.specs.declared.Scaling.{Scaling}
use Rattle.cone.proofs.table.Settled.{refused, done}
use Rattle.judges.specs.Refusals.{last_rows, settle_record}

module _ {A : Type 0} (finish : Scaling → A) (refuse : ℕ → A) where
  pub refused_record : (made : Option Scaling) (r : ℕ) → r ≡ last_rows made → (r ≡ 0 → ⊥) → refuse r ≡ settle_record made finish refuse
  unfolding settle_record last_rows
  refused_record None r e n = ap refuse e
  refused_record (Some new) r e n = refused (last_rows (Some new)) r (finish new) refuse e n

  pub done_record : (made : Option Scaling) (new : Scaling) (r : ℕ) → r ≡ last_rows made → made ≡ Some new → r ≡ 0
      → finish new ≡ settle_record made finish refuse
  unfolding settle_record last_rows
  done_record None new r e is z = absurd (none-some new is)
  done_record (Some x) new r e is z =
      ap finish (sym (same_Some x new is)) ∙ done (last_rows (Some x)) r (finish x) refuse e z

-- where there is no record, row 6 applies
pub no_record : (made : Option Scaling) (r : ℕ) → r ≡ last_rows made → ((new : Scaling) → made ≡ Some new → ⊥) → r ≡ 0 → ⊥
unfolding last_rows
no_record None r e n z = omega (arith, e, z)
no_record (Some new) r e n z = n new refl
