-- A kind that was asked whether it is the generalized one, each way. Assumes nothing.
use mathlib.Core.Path.{◌≡◌, ◌∙◌, sym}
use mathlib.Core.Bool.{Bool, true, false}
use Prim.Native.Nat.{ℕ}
use borrow.Author.Tests.{eqb-true, eqb-false}
use Rattle.cone.specs.Codes.{is_wide}

module _ {kind : ℕ} {asked : Bool} (e : asked ≡ is_wide kind) where
  pub wide_kind : asked ≡ true → kind ≡ 3
  wide_kind h = eqb-true kind 3 (sym e ∙ h)

  pub other_kind : asked ≡ false → kind ≡ 3 → ⊥
  other_kind h = eqb-false kind 3 (sym e ∙ h)
