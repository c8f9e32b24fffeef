-- What the calls of the scaling matrix answer and leave for kinds 1 and 2: of the record, the cone's kind, rule and exponent, the numbers of
-- these kinds, whether it was never scaled and its serial. Definitions only; that they are the entries' own for these kinds is proved in
-- `in_place`.
use Rattle.std.specs.Prelude.{ℕ, Bool, not, ◌||◌, ◌&&◌, List, Float}
use Rattle.algebra.specs.Packed.{mul_of}
use Rattle.cone.specs.declared.Cone.{Cone}
use Rattle.cone.specs.declared.Scaling.{Scaling}
use Rattle.cone.specs.Points.{three_of}
use Rattle.cone.specs.table.Table.{settle}
use Rattle.judges.specs.Judges.{rule_ok, three_ok, three_finite, all_finite}
use Rattle.judges.specs.Refusals.{other_length, never_scaled, other_serial, Lent, refuse, publish_of}
use Rattle.kinds.specs.Cones.{alpha_of}
use Rattle.call_record.specs.Rows.{record_rows}

-- row 1: another kind is no cone here
abbrev pub bad_three : Cone → Bool
bad_three c = not (rule_ok c.rule && three_ok c.kind (alpha_of c))

-- ---- the scaling matrix

-- 000, 001 get_Hs
unfoldable pub get_hs_of : Scaling → ℕ → List Float → Lent ℕ
get_hs_of r serial block =
    settle
    (record_rows (bad_three r.cone) (other_length 6 block) (not (three_finite r.three)) (never_scaled r) (other_serial serial r))
    (publish_of block r.three.hs)
    (refuse block)

-- 000, 001 mul_Hs
unfoldable pub mul_hs_of : Scaling → ℕ → List Float → List Float → Lent ℕ
mul_hs_of r serial y x =
    let lengths = other_length 3 y || other_length 3 x in
    let number = not (all_finite x && three_finite r.three) in
    settle (record_rows (bad_three r.cone) lengths number (never_scaled r) (other_serial serial r))
    (publish_of y (mul_of r.three.hs (three_of x)))
    (refuse y)
