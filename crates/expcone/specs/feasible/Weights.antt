-- The factor of both margins. Definitions only.
use Rattle.std.specs.Prelude.{Float}
use Rattle.cone.specs.verdict.Margins.{#2⁻⁴⁰}

-- 02, Order 5: "2^-40·(..)": the part of its weight that a margin is. What Order 12 needs of it is that it is not below 2^-40
abbrev pub #part : Float
#part = #2⁻⁴⁰
