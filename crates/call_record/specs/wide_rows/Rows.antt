-- What the entries over a record ask of its cone for kind 3. Definitions only.
use Rattle.std.specs.Prelude.{Bool, not, ◌&&◌}
use Rattle.cone.specs.declared.Cone.{Cone}
use Rattle.judges.specs.Judges.{rule_ok, tolerance_of, wide_ok}

-- row 1
abbrev pub bad_wide : Cone → Bool
bad_wide c = not (rule_ok c.rule && wide_ok c.dim1 c.dim2 c.exps (tolerance_of c.rule))
