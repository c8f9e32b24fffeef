-- A record of a step search as numbers, and its bytes in each edition. 02, Order 1. Definitions only.
use Rattle.std.specs.Prelude.{ℕ, ◌+◌, ◌*◌, ◌-◌, ◌^◌, ◌<◌, ◌≡◌, Bool, true, cond, ◌&&◌, List, [], ◌∷◌, eqb, leb, ltb, length, get_or}
use Rattle.std.specs.Prelude.{replicate}
use Rattle.octets.specs.lines.Lines.{mark}
use Rattle.octets.specs.words.Words.{word_at, AllBelow}
use Rattle.octets.specs.words.Runs.{Run, runs_size, runs_bytes, runs_of}

-- ---- a record is a value of whole numbers: of a double, its bits

pub record Record : Type 0 where
  pub kind : ℕ
  pub dim1 : ℕ
  pub dim2 : ℕ
  pub rule : ℕ
  pub exps : List ℕ
  pub start : ℕ
  pub flag : ℕ
  pub settings : List ℕ
  pub dz : List ℕ
  pub ds : List ℕ
  pub z : List ℕ
  pub s : List ℕ
  pub dualstep : ℕ
  pub dualcount : ℕ
  pub primalstep : ℕ
  pub primalcount : ℕ

-- ---- the layout

-- 02: "the four bytes `STEP`", as a number of four bytes
abbrev pub step_mark : ℕ
step_mark = mark "STEP"

-- "the four bytes `STEP`, whole record length, kind, dim1, dim2 (u32 each": the bytes of a record's head
abbrev pub head_size : ℕ
head_size = 20

-- "dual step, dual count, primal step, primal count. Counts are u32, all else f64": how many bytes before a record's end each begins. The
-- first is the size of the four
abbrev pub dual_step_back : ℕ
dual_step_back = 24

abbrev pub dual_count_back : ℕ
dual_count_back = 16

abbrev pub primal_step_back : ℕ
primal_step_back = 12

abbrev pub primal_count_back : ℕ
primal_count_back = 4

-- the parts that every record has, whatever its numbers are: the head, "start", the flag and the four. No record is shorter
abbrev pub fixed_size : ℕ
fixed_size = 56

-- 02, Order 9: "New traces are edition 3, with the rule (u32) after dim2": whether a record of the edition has a rule
abbrev pub has_rule : ℕ → Bool
has_rule edition = eqb edition 3

-- and how many
unfoldable pub rules_in : ℕ → ℕ
rules_in edition = cond (has_rule edition) 1 0

-- 02: "kind, dim1, dim2 (u32 each; 3 and 0 for kinds 1 and 2)": whether a record of the kind has its cone's own dims
abbrev pub own_dims : ℕ → Bool
own_dims kind = eqb kind 3

-- 02: "exponents (none, one or dim1)"
unfoldable pub exponents : ℕ → ℕ → ℕ
exponents kind dim1 = cond (own_dims kind) dim1 (cond (eqb kind 2) 1 0)

-- 02: "a u32 flag (1 means default settings; at 0 step and smallest step follow)"
unfoldable pub settings_in : ℕ → ℕ
settings_in flag = cond (eqb flag 0) 2 0

abbrev pub run : ℕ → ℕ → Run
run width count = record { width = width; count = count }

-- The parts of a record in 02's order: "the four bytes `STEP`, whole record length, kind, dim1, dim2", the rule, "exponents", "start", the
-- flag, the settings, "dz, ds, z, s, then dual step, dual count, primal step, primal count. Counts are u32, all else f64". Kinds 1 and 2
-- have the dims 3 and 0, so that dim1 + dim2 is every vector's length.
unfoldable pub runs_for : ℕ → ℕ → ℕ → ℕ → ℕ → List Run
runs_for edition kind dim1 dim2 flag =
    run 4 1 ∷ run 4 1 ∷ run 4 1 ∷ run 4 1 ∷ run 4 1 ∷ run 4 (rules_in edition)
    ∷ run 8 (exponents kind dim1) ∷ run 8 1 ∷ run 4 1 ∷ run 8 (settings_in flag)
    ∷ run 8 (dim1 + dim2) ∷ run 8 (dim1 + dim2) ∷ run 8 (dim1 + dim2) ∷ run 8 (dim1 + dim2)
    ∷ run 8 1 ∷ run 4 1 ∷ run 8 1 ∷ run 4 1 ∷ []

abbrev pub runs_in : ℕ → Record → List Run
runs_in edition r = runs_for edition r.kind r.dim1 r.dim2 r.flag

-- "whole record length"
abbrev pub size_in : ℕ → Record → ℕ
size_in edition r = runs_size (runs_in edition r)

abbrev pub one : ℕ → List ℕ
one x = x ∷ []

-- the numbers of each part
unfoldable pub rows_in : ℕ → Record → List (List ℕ)
rows_in edition r =
    one step_mark ∷ one (size_in edition r) ∷ one r.kind ∷ one r.dim1 ∷ one r.dim2 ∷ replicate (rules_in edition) r.rule
    ∷ r.exps ∷ one r.start ∷ one r.flag ∷ r.settings
    ∷ r.dz ∷ r.ds ∷ r.z ∷ r.s
    ∷ one r.dualstep ∷ one r.dualcount ∷ one r.primalstep ∷ one r.primalcount ∷ []

unfoldable pub bytes_of : ℕ → Record → List ℕ
bytes_of edition r = runs_bytes (runs_in edition r) (rows_in edition r)

-- ---- when a record can be laid out. 02: "Kind, dims, flag, lengths and steps are layout; exponents, settings and vectors may be anything"

-- 02: "kind, dim1, dim2 (u32 each; 3 and 0 for kinds 1 and 2)"; 01: "dim1 or dim2 not 1..32"
unfoldable pub dims_ok : ℕ → ℕ → ℕ → Bool
dims_ok kind dim1 dim2 =
    cond (own_dims kind) (leb 1 dim1 && leb dim1 32 && leb 1 dim2 && leb dim2 32) (leb 1 kind && leb kind 2 && eqb dim1 3 && eqb dim2 0)

-- 02: "a step is +0 or positive and finite": below the bits of the infinity, which leaves out -0 and every NaN
unfoldable pub step_ok : ℕ → Bool
step_ok bits = ltb bits 0x7ff0_0000_0000_0000

unfoldable pub shape_ok : ℕ → ℕ → ℕ → ℕ → Bool
shape_ok kind dim1 dim2 flag = dims_ok kind dim1 dim2 && leb flag 1

pub record Laid (edition : ℕ) (r : Record) : Type 0 where
  pub shape : shape_ok r.kind r.dim1 r.dim2 r.flag ≡ true
  -- 02, Order 9: "cones from editions 1 and 2 are under rule 1"
  pub ruled : (rules_in edition ≡ 0) → r.rule ≡ 1
  pub exps : length r.exps ≡ exponents r.kind r.dim1
  pub settings : length r.settings ≡ settings_in r.flag
  pub dz : length r.dz ≡ r.dim1 + r.dim2
  pub ds : length r.ds ≡ r.dim1 + r.dim2
  pub z : length r.z ≡ r.dim1 + r.dim2
  pub s : length r.s ≡ r.dim1 + r.dim2
  pub dualstep : step_ok r.dualstep ≡ true
  pub primalstep : step_ok r.primalstep ≡ true

-- "u32 each", "Counts are u32, all else f64"
pub record Sized (r : Record) : Type 0 where
  pub rule : r.rule < 256 ^ 4
  pub exps : AllBelow (256 ^ 8) r.exps
  pub start : r.start < 256 ^ 8
  pub settings : AllBelow (256 ^ 8) r.settings
  pub dz : AllBelow (256 ^ 8) r.dz
  pub ds : AllBelow (256 ^ 8) r.ds
  pub z : AllBelow (256 ^ 8) r.z
  pub s : AllBelow (256 ^ 8) r.s
  pub dualcount : r.dualcount < 256 ^ 4
  pub primalcount : r.primalcount < 256 ^ 4

-- ---- reading off the front of a list of bytes

-- the four numbers that a record's parts depend on
abbrev pub kind_at : List ℕ → ℕ
kind_at t = word_at 4 t 8

abbrev pub dim1_at : List ℕ → ℕ
dim1_at t = word_at 4 t 12

abbrev pub dim2_at : List ℕ → ℕ
dim2_at t = word_at 4 t 16

-- 02, Order 9: "with the rule (u32) after dim2"; "cones from editions 1 and 2 are under rule 1"
unfoldable pub rule_at : ℕ → List ℕ → ℕ
rule_at edition t = cond (eqb (rules_in edition) 0) 1 (word_at 4 t head_size)

-- "start", of 8 bytes, stands before the flag
unfoldable pub flag_place : ℕ → ℕ → ℕ → ℕ
flag_place edition kind dim1 = head_size + 8 + 4 * rules_in edition + 8 * exponents kind dim1

abbrev pub flag_at : ℕ → List ℕ → ℕ
flag_at edition t = word_at 4 t (flag_place edition (kind_at t) (dim1_at t))

abbrev pub runs_at : ℕ → List ℕ → List Run
runs_at edition t = runs_for edition (kind_at t) (dim1_at t) (dim2_at t) (flag_at edition t)

abbrev pub size_at : ℕ → List ℕ → ℕ
size_at edition t = runs_size (runs_at edition t)

-- a well laid out record stands at the front
unfoldable pub laid_at : ℕ → List ℕ → Bool
laid_at edition t =
    eqb (word_at 4 t 0) step_mark && eqb (word_at 4 t 4) (size_at edition t)
    && shape_ok (kind_at t) (dim1_at t) (dim2_at t) (flag_at edition t)
    && leb (size_at edition t) (length t)
    && step_ok (word_at 8 t (size_at edition t - dual_step_back))
    && step_ok (word_at 8 t (size_at edition t - primal_step_back))

-- the number that a row of one holds
abbrev pub only : List (List ℕ) → ℕ → ℕ
only rows i = get_or (get_or rows i []) 0 0

abbrev pub row : List (List ℕ) → ℕ → List ℕ
row rows i = get_or rows i []

unfoldable pub of_rows : List (List ℕ) → Record
of_rows rows = record {
  kind = only rows 2;
  dim1 = only rows 3;
  dim2 = only rows 4;
  rule = get_or (row rows 5) 0 1;
  exps = row rows 6;
  start = only rows 7;
  flag = only rows 8;
  settings = row rows 9;
  dz = row rows 10;
  ds = row rows 11;
  z = row rows 12;
  s = row rows 13;
  dualstep = only rows 14;
  dualcount = only rows 15;
  primalstep = only rows 16;
  primalcount = only rows 17;
}

-- the record at the front, where one stands there
unfoldable pub record_at : ℕ → List ℕ → Record
record_at edition t = of_rows (runs_of (runs_at edition t) t)
