-- `numbers` meets its contract: the dims of a record that is laid out are few. Assumes nothing.
use Rattle.trace.proofs.value.Assembled.{few_numbers}
use mathlib.Core.Path.{refl}
use Rattle.trace.proofs.value.Found.numbers.Goals as goal

pub returns : goal.returns
returns c = let f = c.args.self in (refl, few_numbers f.edition f.bytes.now f.shape f.read f.laid)
