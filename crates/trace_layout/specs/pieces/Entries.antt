-- A record of doubles: its numbers in an `Entry`, its vectors beside it. Definitions only.
use Rattle.std.specs.Prelude.{ℕ, List, [], ◌∷◌, map, take, Float}
use Rattle.std.specs.Float.{binary64}
use Rattle.std.specs.Float.Ieee.{to_bits}
use Rattle.trace_layout.specs.Records.{Record, settings_in}
use Rattle.trace_layout.specs.declared.pieces.Entry.{Entry}

-- a vector as numbers: the bits of each double
abbrev pub bits_of : List Float → List ℕ
bits_of xs = map (to_bits binary64) xs

-- the settings that follow the flag
abbrev pub settings_row : Entry → List ℕ
settings_row x = take (settings_in x.flag) (x.step ∷ x.smallest ∷ [])

unfoldable pub record_of : Entry → List Float → List Float → List Float → List Float → List Float → Record
record_of x exps dz ds z s = record {
  kind = x.kind;
  dim1 = x.dim1;
  dim2 = x.dim2;
  rule = x.rule;
  exps = bits_of exps;
  start = x.start;
  flag = x.flag;
  settings = settings_row x;
  dz = bits_of dz;
  ds = bits_of ds;
  z = bits_of z;
  s = bits_of s;
  dualstep = x.dualstep;
  dualcount = x.dualcount;
  primalstep = x.primalstep;
  primalcount = x.primalcount;
}
