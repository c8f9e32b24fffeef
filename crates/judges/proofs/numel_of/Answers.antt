-- `numel_of` reads kind and dims where the cone has them. Assumes nothing.
use mathlib.Core.Path.{◌≡◌, refl, sym, ◌∙◌, ap}
use Prim.Native.Nat.{ℕ, ◌+◌}
use Rattle.arith.proofs.Branches.{taken, left}
use Rattle.cone.specs.Codes.{is_wide, numel_of}
use Rattle.cone.specs.words.Words.{cone_of_words}
use Rattle.judges.proofs.numel_of.Goals as goal

sums : {a b x y : ℕ} → a ≡ x → b ≡ y → a + b ≡ x + y
sums p q = cc

pub returns-then-is_wide : goal.returns-then-is_wide
unfolding numel_of cone_of_words
returns-then-is_wide c =
    taken 3 (ap is_wide (sym c.low_half-kind.ensures) ∙ sym c.is_wide.ensures ∙ c.if-is_wide.true)
    (sums c.high_half.ensures c.low_half.ensures)

pub returns : goal.returns
unfolding numel_of cone_of_words
returns c = left _ (ap is_wide (sym c.low_half-kind.ensures) ∙ sym c.is_wide.ensures ∙ c.if-is_wide.false) refl
