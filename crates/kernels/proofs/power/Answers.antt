-- `power` meets its contract: each return is one of the cases. Assumes nothing.
use mathlib.Core.Path.{◌≡◌, sym, ◌∙◌}
use mathlib.Core.Bool.{Bool}
use lib.Ieee.{Float, is_nan, ne}
use Rattle.double.proofs.NotNan.{differs-is}
use Rattle.kernels.proofs.PowfCases.{of_zero, of_nan, of_one, of_two, of_negative, otherwise}
use Rattle.kernels.proofs.power.Goals as goal
use Rattle.kernels.proofs.power.Goals.{Else-is_nan, Else-y-3}

-- the test of NaN in the specification's words
tested : (x : Float) (b : Bool) → b ≡ is_nan x → ne x x ≡ b
tested x b e = differs-is x ∙ sym e

pub returns-then-y : goal.returns-then-y
returns-then-y c = of_zero _ _ _ c.if-y.true

pub returns-then-is_nan : goal.returns-then-is_nan
returns-then-is_nan c = c.nan.ensures ∙ of_nan _ _ _ c.if-y.false (tested _ _ c.if-is_nan.ensures.value)

pub returns-then-y-2 : goal.returns-then-y-2
returns-then-y-2 c = of_one _ _ _ c.if-y.false c.if-y-2.true

pub returns-then-y-3 : goal.returns-then-y-3
returns-then-y-3 c = of_two _ _ _ c.if-y.false c.if-y-2.false c.if-y-3.true

-- past the tests of y and of NaN
abbrev numbers : Else-y-3 → Else-is_nan
numbers c = c.before.before

pub returns-then-x : goal.returns-then-x
returns-then-x c =
    let e = c.before.before in
    let n = numbers e in
    c.nan-then-x.ensures ∙ of_negative _ _ _ n.if-y.false e.if-y-2.false e.if-y-3.false (tested _ _ n.if-is_nan.ensures.value) c.if-x.true

pub returns : goal.returns
returns c =
    let l = c.before in
    let e = l.before in
    let n = numbers e in
    c.exp.ensures ∙ otherwise _ _ _ n.if-y.false e.if-y-2.false e.if-y-3.false (tested _ _ n.if-is_nan.ensures.value) l.if-x.false
