-- `flag_place` meets its contract: the shape's numbers bound the place. Assumes nothing.
use Rattle.trace.proofs.value.Assembled.{low_flag, high_flag}
use native.Mathlib.Omega.{arith}
use Rattle.trace.proofs.value.Found.flag_place.Goals as goal

pub returns : goal.returns
returns c =
    let f = c.args.self in (
      c.flag_place.ensures,
      omega (arith, c.flag_place.ensures, high_flag f.edition f.bytes.now f.shape f.read),
      omega (arith, c.flag_place.ensures, low_flag f.edition f.bytes.now f.shape f.read f.laid),
    )
