-- A record by its parts, in the header's order. Definitions only.
use Rattle.std.specs.Prelude.{ℕ, List, Float}
use Rattle.cone.specs.declared.Scaling.{Scaling}
use Rattle.cone.specs.declared.Three.{Three}
use Rattle.cone.specs.declared.Wide.{Wide}

-- 01: "A scaling record keeps z, the gradient and both packed blocks."
abbrev pub triple_of : List Float → List Float → List Float → List Float → Three
triple_of z grad hdual hs = record { z = z; grad = grad; hdual = hdual; hs = hs }

-- 01: "For the generalized cone it keeps z, μ, gradient, p, q, r, d1, d2."
abbrev pub wide_of : List Float → Float → List Float → List Float → List Float → List Float → List Float → Float → Wide
wide_of z μ grad p q r d1 d2 = record { z = z; mu = μ; grad = grad; p = p; q = q; r = r; d1 = d1; d2 = d2 }

-- 01: "It also holds the cone it was made for, as given, and whether it was ever scaled"; 02, Order 6: "Put a serial into the scaling record"
abbrev pub record_of : ℕ → ℕ → ℕ → ℕ → List Float → ℕ → ℕ → Three → Wide → Scaling
record_of kind dim1 dim2 rule exps scaled serial three wide = record {
  cone = record { kind = kind; dim1 = dim1; dim2 = dim2; rule = rule; exps = exps };
  scaled = scaled;
  serial = serial;
  three = three;
  wide = wide;
}
