-- What is given to `append`, as a record of whole numbers, and whether it can be laid out. Definitions only.
use Rattle.std.specs.Prelude.{ℕ, ◌+◌, Bool, cond, ◌&&◌, ◌||◌, List, eqb, Float, length, take}
use Rattle.std.specs.Float.{binary64}
use Rattle.std.specs.Float.Ieee.{to_bits}
use Rattle.cone.specs.declared.Cone.{Cone}
use Rattle.cone.specs.declared.Settings.{Settings}
use Rattle.cone.specs.declared.Steps.{Steps}
use Rattle.trace_layout.specs.Records.{Record, has_rule, own_dims, exponents, shape_ok, step_ok}
use Rattle.trace_layout.specs.declared.pieces.Entry.{Entry}
use Rattle.trace_layout.specs.pieces.Entries.{record_of}

-- 02: "kind, dim1, dim2 (u32 each; 3 and 0 for kinds 1 and 2)", whatever the cone holds there
abbrev pub dim1_of : Cone → ℕ
dim1_of c = cond (own_dims c.kind) c.dim1 3

abbrev pub dim2_of : Cone → ℕ
dim2_of c = cond (own_dims c.kind) c.dim2 0

-- The numbers beside the vectors
unfoldable pub entry_of : Cone → ℕ → Settings → Steps → Entry
entry_of c flag settings steps = record {
  kind = c.kind;
  dim1 = dim1_of c;
  dim2 = dim2_of c;
  rule = c.rule;
  start = to_bits binary64 settings.start;
  flag = flag;
  step = to_bits binary64 settings.step;
  smallest = to_bits binary64 settings.smallest;
  dualstep = to_bits binary64 steps.dualstep;
  dualcount = steps.dualcount;
  primalstep = to_bits binary64 steps.primalstep;
  primalcount = steps.primalcount;
}

-- 02: "exponents (none, one or dim1)"
abbrev pub used_exps : Cone → List Float
used_exps c = take (exponents c.kind (dim1_of c)) c.exps

abbrev pub given_of : Cone → ℕ → Settings → List Float → List Float → List Float → List Float → Steps → Record
given_of c flag settings dz ds z s steps = record_of (entry_of c flag settings steps) (used_exps c) dz ds z s

-- 02: "Kind, dims, flag, lengths and steps are layout"; Order 9: a rule other than 1 would not be read back from editions 1 and 2
unfoldable pub can_lay : ℕ → Record → Bool
can_lay e r =
    let n = r.dim1 + r.dim2 in
    shape_ok r.kind r.dim1 r.dim2 r.flag && (has_rule e || eqb r.rule 1) && eqb (length r.dz) n && eqb (length r.ds) n
    && eqb (length r.z) n && eqb (length r.s) n
    && step_ok r.dualstep
    && step_ok r.primalstep
