-- `cholesky_3x3_explicit_factor` meets its contract: each pivot's test picks the definition's branch, and each root is the kernel's. The
-- definition is taken in stages, one for each root. Assumes nothing.
use Rattle.std.proofs.Common.{List, [], ◌∷◌, Option, Some, refl, ap, ◌∙◌}
use lib.Ieee.{Float}
use Rattle.arith.proofs.Branches.{taken, left}
use Rattle.double.specs.Operators.{◌⊖◌, ◌⊗◌, ◌⊘◌}
use Rattle.kernels.specs.Door.{sqrt_of}
use Rattle.algebra.specs.Cholesky.{if_above, factor_of}
use Rattle.algebra.proofs.sym3.cholesky_3x3_explicit_factor.Goals as goal

-- the factor from the third root on, from the second, from the first
unfoldable with_third : Float → Float → Float → Float → Float → Float → Option (List Float)
with_third l00 l10 l11 l20 l21 l22 = Some (l00 ∷ l10 ∷ l11 ∷ l20 ∷ l21 ∷ l22 ∷ [])

unfoldable with_second : Float → Float → Float → Float → Float → Float → Option (List Float)
with_second h02 h12 h22 l00 l10 l11 =
    let l20 = h02 ⊘ l00 in
    let l21 = (h12 ⊖ l10 ⊗ l20) ⊘ l11 in
    let p2 = h22 ⊖ l20 ⊗ l20 ⊖ l21 ⊗ l21 in
    if_above p2 (with_third l00 l10 l11 l20 l21 (sqrt_of p2))

unfoldable with_first : Float → Float → Float → Float → Float → Float → Option (List Float)
with_first h01 h11 h02 h12 h22 l00 =
    let l10 = h01 ⊘ l00 in
    let p1 = h11 ⊖ l10 ⊗ l10 in
    if_above p1 (with_second h02 h12 h22 l00 l10 (sqrt_of p1))

pub returns-then-p2 : goal.returns-then-p2
unfolding factor_of with_first with_second with_third
returns-then-p2 c =
    let s2 = c.before.before in
    let s1 = s2.before.before in
    taken _ s1.if-p0.true
    (taken _ s2.if-p1.true
    (taken _ c.if-p2.true (ap (with_third _ _ _ _ _) c.sqrt-l22.ensures)
    ∙ ap (with_second _ _ _ _ _) s2.sqrt-l11.ensures)
    ∙ ap (with_first _ _ _ _ _) s1.sqrt-l00.ensures)

pub returns-else-p2 : goal.returns-else-p2
unfolding factor_of with_first with_second with_third
returns-else-p2 c =
    let s2 = c.before in
    let s1 = s2.before.before in
    taken _ s1.if-p0.true
    (taken _ s2.if-p1.true (left _ c.if-p2.false refl ∙ ap (with_second _ _ _ _ _) s2.sqrt-l11.ensures)
    ∙ ap (with_first _ _ _ _ _) s1.sqrt-l00.ensures)

pub returns-else-p1 : goal.returns-else-p1
unfolding factor_of with_first with_second with_third
returns-else-p1 c =
    let s1 = c.before in
    taken _ s1.if-p0.true (left _ c.if-p1.false refl ∙ ap (with_first _ _ _ _ _) s1.sqrt-l00.ensures)

pub returns-else-p0 : goal.returns-else-p0
unfolding factor_of
returns-else-p0 c = left _ c.if-p0.false refl
