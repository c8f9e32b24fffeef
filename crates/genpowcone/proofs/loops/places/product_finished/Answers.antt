-- `product_finished` meets its contract: its closure gives what the definition says of each place. Assumes nothing.
use Rattle.std.proofs.Common.{rules, ap, ap₂, ◌∙◌}
use mathlib.Core.List.{zip_with}
use lib.Ieee.{Float}
use Rattle.double.specs.Operators.{◌⊕◌, ◌⊗◌}
use Rattle.double.specs.Numbers.{#1}
use Rattle.cone.specs.Points.{padded}
use Rattle.genpowcone.proofs.loops.Arrays.{zip_take}
use Rattle.genpowcone.proofs.loops.places.product_finished.Goals as goal

pub returns : goal.returns
returns c =
    let a = c.args in
    let turn : Float → Float → Float = λ (x y : Float). (a.coefp ⊗ x ⊕ #1 ⊗ y) ⊗ a.mu in
    c.filled_zipped.ensures turn (λ x y z given. search rules)
    ∙ ap (padded 64) (ap₂ (zip_with turn) c.head.ensures c.head-2.ensures ∙ zip_take turn a.n a.p.now a.y.now)
