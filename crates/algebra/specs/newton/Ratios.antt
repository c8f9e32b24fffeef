-- (1+α)/α of an exponent. Definitions only.
use Rattle.std.specs.Prelude.{Float}
use Rattle.double.specs.Operators.{◌⊕◌, ◌⊘◌}
use Rattle.double.specs.Numbers.{#1}

-- 002 _newton_raphson_genpowcone, f0 and f1
unfoldable pub ratio_of : Float → Float
ratio_of a = (#1 ⊕ a) ⊘ a
