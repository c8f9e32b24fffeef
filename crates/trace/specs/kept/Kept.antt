-- The values that were given, as they are read back. Definitions only.
use Rattle.std.specs.Prelude.{ℕ, ◌+◌, cond, List, eqb, Float}
use Rattle.cone.specs.declared.Cone.{Cone}
use Rattle.cone.specs.declared.Settings.{Settings}
use Rattle.cone.specs.declared.Steps.{Steps}
use Rattle.trace_layout.specs.Records.{size_in}
use Rattle.trace.specs.places.Given.{dim1_of, dim2_of, used_exps, given_of}
use Rattle.trace.specs.declared.value.Recorded.{Recorded}
use Rattle.trace.specs.value.Defaults.{default_of}
use Rattle.cone.specs.Points.{padded}

-- the steps' code is no part of a record
abbrev pub kept_steps : Steps → Steps
kept_steps s =
    record { code = 0; dualcount = s.dualcount; primalcount = s.primalcount; dualstep = s.dualstep; primalstep = s.primalstep }

-- 02: "what one writes the other reads back the same", at an offset of a trace of an edition. Places that the kind does not use are +0,
-- kinds 1 and 2 have the dims 3 and 0, and flag 1 means the edition's step and smallest step. The next record begins behind its bytes
unfoldable pub kept_of : ℕ → ℕ → Cone → ℕ → Settings → List Float → List Float → List Float → List Float → Steps → Recorded
kept_of edition at c flag settings dz ds z s steps = record {
  code = 0;
  flag = flag;
  at = at;
  next = at + size_in edition (given_of c flag settings dz ds z s steps);
  cone = record { kind = c.kind; dim1 = dim1_of c; dim2 = dim2_of c; rule = c.rule; exps = padded 32 (used_exps c) };
  settings = cond (eqb flag 0) settings (default_of edition settings.start);
  dz = padded 64 dz;
  ds = padded 64 ds;
  z = padded 64 z;
  s = padded 64 s;
  steps = kept_steps steps;
}
