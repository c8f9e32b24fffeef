-- A record that was never scaled, one in the making, and the house defaults. Definitions only.
use Rattle.std.specs.Prelude.{ℕ, Float, replicate}
use Rattle.double.specs.Numbers.{#0, #house_step, #house_smallest}
use Rattle.cone.specs.Codes.{primal_dual}
use Rattle.cone.specs.declared.Cone.{Cone}
use Rattle.cone.specs.declared.Settings.{Settings}
use Rattle.cone.specs.declared.Three.{Three}
use Rattle.cone.specs.declared.Wide.{Wide}
use Rattle.cone.specs.declared.Scaling.{Scaling}

-- 01: "A cone is kind, dim1, dim2" and its 32 exponent places; 02, Order 9: "The cone carries its rule number". The cone with nothing in
-- it: no kind is 0, and no rule
abbrev pub empty_cone : Cone
empty_cone = record { kind = 0; dim1 = 0; dim2 = 0; rule = 0; exps = replicate 32 #0 }

-- 01: "fresh: no, and all its numbers +0". The numbers that kinds 1 and 2 keep: "z, the gradient and both packed blocks"
unfoldable pub no_three : Three
no_three = record { z = replicate 3 #0; grad = replicate 3 #0; hdual = replicate 6 #0; hs = replicate 6 #0 }

-- The numbers that kind 3 keeps: "For the generalized cone it keeps z, μ, gradient, p, q, r, d1, d2"
unfoldable pub no_wide : Wide
no_wide = record {
  z = replicate 64 #0;
  mu = #0;
  grad = replicate 64 #0;
  p = replicate 64 #0;
  q = replicate 32 #0;
  r = replicate 32 #0;
  d1 = replicate 32 #0;
  d2 = #0;
}

-- 01: "It also holds the cone it was made for, as given, and whether it was ever scaled (fresh: no, and all its numbers +0)".
-- 02, Order 6: "Put a serial into the scaling record: 0 when fresh"
unfoldable pub fresh_of : Cone → Scaling
fresh_of c = record { cone = c; scaled = 0; serial = 0; three = no_three; wide = no_wide }

-- a record in the making: it keeps the cone, and it was scaled; the update that completes it gives it its serial
abbrev pub attempt_of : Cone → Three → Wide → Scaling
attempt_of c three wide = record { cone = c; scaled = 1; serial = 0; three = three; wide = wide }

-- 01: "House defaults: step 0.5, smallest step 0.0001, strategy primal-dual"
abbrev pub house_settings : Float → Settings
house_settings start = record { start = start; step = #house_step; smallest = #house_smallest }

abbrev pub house_strategy : ℕ
house_strategy = primal_dual
