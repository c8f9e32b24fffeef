-- The Cholesky factor of a packed block, and the solution of H·x = b by it. Definitions only.
use Rattle.std.specs.Prelude.{cond, List, [], ◌∷◌, Option, Some, None, Float}
use Rattle.double.specs.Operators.{◌⊖◌, ◌⊗◌, ◌⊘◌, ◌≺◌, at}
use Rattle.double.specs.Numbers.{#0}
use Rattle.kernels.specs.Door.{sqrt_of}

-- 01: "a pivot not above 0 fails". A NaN is not above 0
abbrev pub if_above : Float → Option (List Float) → Option (List Float)
if_above pivot f = cond (#0 ≺ pivot) f None

-- 01: "pivots h00, h11-l10², h22-l20²-l21²", "the diagonal holds the pivots' roots", and
-- "l21 = (h12-l10·l20)/l11; l10 = h01/l00, l20 = h02/l00"
unfoldable pub factor_of : List Float → Option (List Float)
factor_of h =
    let p0 = at h 0 in
    let l00 = sqrt_of p0 in
    let l10 = at h 1 ⊘ l00 in
    let p1 = at h 2 ⊖ l10 ⊗ l10 in
    let l11 = sqrt_of p1 in
    let l20 = at h 3 ⊘ l00 in
    let l21 = (at h 4 ⊖ l10 ⊗ l20) ⊘ l11 in
    let p2 = at h 5 ⊖ l20 ⊗ l20 ⊖ l21 ⊗ l21 in
    let l22 = sqrt_of p2 in
    if_above p0 (if_above p1 (if_above p2 (Some (l00 ∷ l10 ∷ l11 ∷ l20 ∷ l21 ∷ l22 ∷ []))))

-- 01: "forward then backward substitution, subtracting known products in rising index order, with division by the diagonal"
unfoldable pub solve_of : List Float → List Float → List Float
solve_of l b =
    let y0 = at b 0 ⊘ at l 0 in
    let y1 = (at b 1 ⊖ at l 1 ⊗ y0) ⊘ at l 2 in
    let y2 = (at b 2 ⊖ at l 3 ⊗ y0 ⊖ at l 4 ⊗ y1) ⊘ at l 5 in
    let x2 = y2 ⊘ at l 5 in
    let x1 = (y1 ⊖ at l 4 ⊗ x2) ⊘ at l 2 in
    let x0 = (y0 ⊖ at l 1 ⊗ x1 ⊖ at l 3 ⊗ x2) ⊘ at l 0 in
    x0 ∷ x1 ∷ x2 ∷ []
