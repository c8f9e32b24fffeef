-- `filled_zipped` meets its contract: it writes from the front of places that are +0. Assumes nothing.
use Rattle.std.proofs.Common.{◌∙◌, arith}
use Rattle.cone.proofs.Written.{sets_front, zip_length}
use Rattle.cone.proofs.places.filled_zipped.Goals as goal

pub returns : goal.returns
returns g c = λ h each. c.put_zipped.ensures h each ∙ sets_front _ _ (omega (arith, zip_length h c.args.xs.now c.args.ys.now))
