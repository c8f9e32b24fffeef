-- What the table of document 01 asks of a call's arguments, one definition for each question. Definitions only.
use Rattle.std.specs.Prelude.{ℕ, ◌+◌, Bool, cond, ◌&&◌, ◌||◌, List, eqb, take, Float}
use Rattle.std.specs.Float.Ieee.Scale.{finite}
use Rattle.double.specs.Operators.{◌≺◌, ◌≼◌}
use Rattle.double.specs.Numbers.{#0, #largest_step, #smallest_normal}
use Rattle.cone.specs.Codes.{is_wide, dual, primal_dual}
use Rattle.cone.specs.declared.Settings.{Settings}
use Rattle.cone.specs.declared.Three.{Three}
use Rattle.cone.specs.declared.Wide.{Wide}
use Rattle.cone.specs.declared.Scaling.{Scaling}
-- number 1, the cone: passed on
pub use Rattle.judges.specs.cone_judge.Cones.{power_ok, exponent_ok, rule1, rule2, rule_ok, sum_ok}
unfoldable pub use Rattle.judges.specs.cone_judge.Cones.{all_of, tolerance_of, wide_ok, three_ok, cone_ok_within, cone_ok}

-- ---- number 3: numbers that are neither NaN nor infinite

abbrev pub all_finite : List Float → Bool
all_finite xs = all_of finite xs

-- of an entry that takes a dual and a primal point with their directions
abbrev pub sides_finite : List Float → List Float → List Float → List Float → Bool
sides_finite dz ds z s = all_finite dz && all_finite ds && all_finite z && all_finite s

abbrev pub settings_finite : Settings → Bool
settings_finite s = finite s.start && finite s.step && finite s.smallest

-- kinds 1 and 2 keep "z, the gradient and both packed blocks"
unfoldable pub three_finite : Three → Bool
three_finite t = all_finite t.z && all_finite t.grad && all_finite t.hdual && all_finite t.hs

-- kind 3 keeps "z, μ, gradient, p, q, r, d1, d2", each in the places that its dims use
unfoldable pub wide_finite : Wide → ℕ → ℕ → Bool
wide_finite w n₁ n₂ =
    all_finite (take (n₁ + n₂) w.z) && finite w.mu && all_finite (take (n₁ + n₂) w.grad) && all_finite (take (n₁ + n₂) w.p)
    && all_finite (take n₁ w.q)
    && all_finite (take n₂ w.r)
    && all_finite (take n₁ w.d1)
    && finite w.d2

-- 01: "a passed record's numbers under 3 included"; "Places that a kind does not use are neither read nor judged"
unfoldable pub record_finite : Scaling → Bool
record_finite s = cond (is_wide s.cone.kind) (wide_finite s.wide s.cone.dim1 s.cone.dim2) (three_finite s.three)

-- ---- number 4

-- 01: "search start not above 0; step not above 0 or more than 0.99; smallest step not a positive normal number"
abbrev pub settings_ok : Settings → Bool
settings_ok s = #0 ≺ s.start && #0 ≺ s.step && s.step ≼ #largest_step && #smallest_normal ≼ s.smallest

-- 01: "strategy code neither 1 (dual) nor 2 (primal-dual)"
abbrev pub strategy_ok : ℕ → Bool
strategy_ok k = eqb k dual || eqb k primal_dual
