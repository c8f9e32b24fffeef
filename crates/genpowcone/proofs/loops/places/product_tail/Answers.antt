-- `product_tail` meets its contract: its closure gives what the definition says of each place. Assumes nothing.
use Rattle.std.proofs.Common.{rules, ap, ◌∙◌}
use Rattle.std.proofs.lemmas.List.Edits.{sets}
use lib.Ieee.{Float}
use Rattle.double.specs.Operators.{◌⊖◌, ◌⊗◌}
use Rattle.genpowcone.proofs.loops.Arrays.{zip-maps}
use Rattle.genpowcone.proofs.loops.places.product_tail.Goals as goal

pub returns : goal.returns
returns c =
    let a = c.args in
    c.put_zipped.ensures (λ (x r : Float). a.d2 ⊗ x ⊖ a.coefr ⊗ r) (λ x y z given. search rules)
    ∙ ap (sets a.y0 a.n) (zip-maps ◌⊖◌ (λ (x : Float). a.d2 ⊗ x) (λ (r : Float). a.coefr ⊗ r) a.x.now a.r.now)
