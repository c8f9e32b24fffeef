-- `filled` meets its contract: it writes from the front of places that are +0. Assumes nothing.
use Rattle.std.proofs.Common.{◌∙◌, arith}
use lib.ListN.{length-map}
use Rattle.cone.proofs.Written.{sets_front}
use Rattle.cone.proofs.places.filled.Goals as goal

pub returns : goal.returns
returns g c = λ h each. c.put.ensures h each ∙ sets_front _ _ (omega (arith, length-map c.args.xs.now h))
