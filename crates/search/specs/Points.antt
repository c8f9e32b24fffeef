-- The point that a trial tests. Definitions only.
use Rattle.std.specs.Prelude.{Bool, not, List, Float}
use Rattle.std.specs.Float.Ieee.{is_nan}
use Rattle.algebra.specs.Vectors.{moved_of}
use Rattle.judges.specs.Judges.{all_of}

-- 01: "Trial point: q[i] + α·dq[i], two roundings." 003: work.waxpby(1, q, α, dq), and 1·q[i] is q[i]
abbrev pub trial_point : List Float → List Float → Float → List Float
trial_point q dq α = moved_of q α dq

-- No place is a NaN, so that the bits are determined: every other value has one pattern.
abbrev pub all_numbers : List Float → Bool
all_numbers p = all_of (λ (x : Float). not (is_nan x)) p
