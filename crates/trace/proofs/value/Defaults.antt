-- An edition's defaults are the decimals that the documents have, and the newest edition's are the house's. Assumes nothing.
use mathlib.Core.Path.{refl}
use lib.Ieee.{of_bits}
use Rattle.double.specs.Numbers.{dec}
use Rattle.trace.specs.value.Defaults.{default_step, DefaultsRight}

pub defaults_right : DefaultsRight
unfolding of_bits dec default_step
defaults_right = record { first = λ start. refl; second = λ start. refl; third = λ start. refl; newest = λ start. refl }
