-- A record by value, its numbers as doubles. Definitions only.
use Rattle.std.specs.Prelude.{ℕ, ◌+◌, cond, ◌&&◌, List, [], map, eqb, ltb, Float, get_or, replicate}
use Rattle.std.specs.Float.{binary64}
use Rattle.std.specs.Float.Ieee.{of_bits}
use Rattle.double.specs.Numbers.{#0}
use Rattle.cone.specs.declared.Cone.{Cone}
use Rattle.cone.specs.declared.Settings.{Settings}
use Rattle.cone.specs.declared.Steps.{Steps}
use Rattle.cone.specs.Fresh.{empty_cone}
use Rattle.cone.specs.Points.{padded}
use Rattle.octets.specs.words.Words.{row_of}
use Rattle.trace_layout.specs.Records.{Record, size_in, record_at}
use Rattle.trace_layout.specs.Traces.{count_at, edition_at, offset_at, good_trace, records_of}
use Rattle.trace.specs.declared.value.Recorded.{Recorded}
use Rattle.trace.specs.value.Defaults.{default_of}

-- the doubles of their bits
abbrev pub values_of : List ℕ → List Float
values_of ws = map (of_bits binary64) ws

-- the first n doubles of a row of bytes, in m places
unfoldable pub row_in : ℕ → ℕ → List ℕ → List Float
row_in m n bs = padded m (values_of (row_of 8 n bs))

unfoldable pub cone_of : Record → Cone
cone_of r = record { kind = r.kind; dim1 = r.dim1; dim2 = r.dim2; rule = r.rule; exps = padded 32 (values_of r.exps) }

-- 02: "a u32 flag (1 means default settings; at 0 step and smallest step follow)"
unfoldable pub settings_of : ℕ → Record → Settings
settings_of edition r =
    let start = of_bits binary64 r.start in
    cond (eqb r.flag 0)
    (record { start = start; step = of_bits binary64 (get_or r.settings 0 0); smallest = of_bits binary64 (get_or r.settings 1 0) })
    (default_of edition start)

unfoldable pub steps_of : Record → Steps
steps_of r =
    record {
      code = 0;
      dualcount = r.dualcount;
      primalcount = r.primalcount;
      dualstep = of_bits binary64
          r.dualstep;
      primalstep = of_bits binary64 r.primalstep;
    }

-- the record that begins at an offset; the next one begins behind its bytes
unfoldable pub recorded_of : ℕ → ℕ → Record → Recorded
recorded_of edition at r = record {
  code = 0;
  flag = r.flag;
  at = at;
  next = at + size_in edition r;
  cone = cone_of r;
  settings = settings_of edition r;
  dz = padded 64 (values_of r.dz);
  ds = padded 64 (values_of r.ds);
  z = padded 64 (values_of r.z);
  s = padded 64 (values_of r.s);
  steps = steps_of r;
}

-- 01: "A refusal returns zeros for all numbers"
unfoldable pub refused_record : ℕ → Recorded
refused_record code = record {
  code = code;
  flag = 0;
  at = 0;
  next = 0;
  cone = empty_cone;
  settings = record { start = #0; step = #0; smallest = #0 };
  dz = replicate 64 #0;
  ds = replicate 64 #0;
  z = replicate 64 #0;
  s = replicate 64 #0;
  steps = record { code = 0; dualcount = 0; primalcount = 0; dualstep = #0; primalstep = #0 };
}

-- record i of a good trace, or 9
unfoldable pub recorded_in : List ℕ → ℕ → Recorded
recorded_in bs i =
    cond (good_trace bs && ltb i (count_at bs))
    (recorded_of (edition_at bs) (offset_at bs i) (get_or (records_of bs) i (record_at (edition_at bs) [])))
    (refused_record 9)
