-- The parts of a record as the writer puts them down. Definitions only.
use Rattle.std.specs.Prelude.{ℕ, List, [], ◌∷◌, ◌++◌, replicate, Float}
use Rattle.octets.specs.words.Words.{le, row_bytes}
use Rattle.trace_layout.specs.Records.{step_mark, rules_in, runs_for}
use Rattle.octets.specs.words.Runs.{runs_size}
use Rattle.trace_layout.specs.declared.pieces.Entry.{Entry}
use Rattle.trace_layout.specs.pieces.Entries.{bits_of, settings_row}

-- "the four bytes `STEP`, whole record length, kind, dim1, dim2"
abbrev pub head_row : ℕ → Entry → List ℕ
head_row size x = step_mark ∷ size ∷ x.kind ∷ x.dim1 ∷ x.dim2 ∷ []

abbrev pub rule_row : ℕ → ℕ → List ℕ
rule_row edition rule = replicate (rules_in edition) rule

abbrev pub search_bytes : Entry → List ℕ
search_bytes x = le 8 x.start ++ (le 4 x.flag ++ row_bytes 8 (settings_row x))

abbrev pub answer_bytes : ℕ → ℕ → List ℕ
answer_bytes step count = le 8 step ++ le 4 count

-- "dual step, dual count, primal step, primal count"
abbrev pub result_bytes : Entry → List ℕ
result_bytes x = answer_bytes x.dualstep x.dualcount ++ answer_bytes x.primalstep x.primalcount

-- "dz, ds, z, s"
unfoldable pub vector_bytes : List Float → List Float → List Float → List Float → List ℕ
vector_bytes dz ds z s = ((row_bytes 8 (bits_of dz) ++ row_bytes 8 (bits_of ds)) ++ row_bytes 8 (bits_of z)) ++ row_bytes 8 (bits_of s)

-- the record's bytes as the writer puts them down, part by part
unfoldable pub entry_bytes : ℕ → Entry → List Float → List Float → List Float → List Float → List Float → List ℕ
entry_bytes e x exps dz ds z s =
    ((((row_bytes 4 (head_row (runs_size (runs_for e x.kind x.dim1 x.dim2 x.flag)) x) ++ row_bytes 4 (rule_row e x.rule))
    ++ row_bytes 8 (bits_of exps)) ++ search_bytes x) ++ vector_bytes dz ds z s) ++ result_bytes x
