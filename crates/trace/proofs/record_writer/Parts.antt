-- The parts that the writer puts down one behind the other are the record's bytes. Assumes nothing.
use mathlib.Core.Path.{◌≡◌, refl, ap, ◌∙◌}
use Prim.Native.Nat.{ℕ, ◌+◌, ◌*◌}
use native.Mathlib.Omega.{arith}
use lib.ListN.{length, length-append, length-replicate}
use lib.Seq.{length-take-le}
use mathlib.Core.List.{List, [], ◌∷◌, ◌++◌, append_assoc}
use lib.Ieee.{Float}
use Rattle.octets.specs.words.Words.{le, row_bytes}
use Rattle.octets.specs.words.Runs.{runs_size, runs_bytes}
use Rattle.trace_layout.specs.Records.{rules_in, settings_in, bytes_of, runs_for, rows_in}
use Rattle.octets.proofs.words.Words.{length-le, length-row_bytes}
use Rattle.trace_layout.proofs.Records.{settings-most}
use Rattle.trace.proofs.record_writer.Bits.{length-row, length-vectors}
use Rattle.trace_layout.specs.declared.pieces.Entry.{Entry}
use Rattle.trace_layout.specs.pieces.Entries.{bits_of, settings_row, record_of}
use Rattle.trace.specs.record_writer.Parts.{head_row, rule_row, search_bytes, result_bytes, vector_bytes, entry_bytes}

grouped_six : (a b c d f g : List ℕ) → ((((a ++ b) ++ c) ++ d) ++ f) ++ g ≡ a ++ (b ++ (c ++ (d ++ (f ++ g))))
grouped_six a b c d f g = simp append_assoc

grouped_five : (a b c d f : List ℕ) → (((a ++ b) ++ c) ++ d) ++ f ≡ a ++ (b ++ (c ++ (d ++ f)))
grouped_five a b c d f = simp append_assoc

-- once the parts are grouped to the right, words of four and eight bytes compute
pub entry_is_record : (e : ℕ) (x : Entry) (exps dz ds z s : List Float) → entry_bytes e x exps dz ds z s
    ≡ bytes_of e (record_of x exps dz ds z s)
unfolding entry_bytes bytes_of runs_bytes runs_for rows_in record_of vector_bytes row_bytes le
entry_is_record e x exps dz ds z s =
    let head = row_bytes 4 (head_row (runs_size (runs_for e x.kind x.dim1 x.dim2 x.flag)) x) in
    let rule = row_bytes 4 (rule_row e x.rule) in
    grouped_six head rule (row_bytes 8 (bits_of exps)) (search_bytes x) (vector_bytes dz ds z s) (result_bytes x)
    ∙ ap (λ (l : List ℕ). head ++ (rule ++ (row_bytes 8 (bits_of exps) ++ (search_bytes x ++ l))))
    (grouped_five (row_bytes 8 (bits_of dz)) (row_bytes 8 (bits_of ds)) (row_bytes 8 (bits_of z)) (row_bytes 8 (bits_of s))
    (result_bytes x))

-- ---- lengths

pub length-head : (size : ℕ) (x : Entry) → length (row_bytes 4 (head_row size x)) ≡ 20
length-head size x = length-row_bytes 4 (head_row size x)

pub length-rule : (e rule : ℕ) → length (row_bytes 4 (rule_row e rule)) ≡ 4 * rules_in e
length-rule e rule = rw (length-row_bytes 4 (rule_row e rule), length-replicate (rules_in e) rule)

pub length-search : (x : Entry) → length (search_bytes x) ≡ 12 + 8 * settings_in x.flag
length-search x =
    let two : length (settings_row x) ≡ settings_in x.flag =
    length-take-le (settings_in x.flag) (x.step ∷ x.smallest ∷ []) (settings-most x.flag) in
    rw (
      length-append (le 8 x.start) (le 4 x.flag ++ row_bytes 8 (settings_row x)),
      length-append (le 4 x.flag) (row_bytes 8 (settings_row x)),
      length-le 8 x.start,
      length-le 4 x.flag,
      length-row_bytes 8 (settings_row x),
      two,
    ) (omega arith)

pub length_results : (x : Entry) → length (result_bytes x) ≡ 24
unfolding le
length_results x = refl

length_six : (a b c d f g : List ℕ) (i j k l m n : ℕ) → length a ≡ i → length b ≡ j → length c ≡ k → length d ≡ l → length f ≡ m → length g
    ≡ n
    → length (((((a ++ b) ++ c) ++ d) ++ f) ++ g) ≡ i + j + k + l + m + n
length_six a b c d f g i j k l m n p q r s t u = simp length-append (omega arith)

pub length-entry : (e : ℕ) (x : Entry) (exps dz ds z s : List Float)
    → length (entry_bytes e x exps dz ds z s) ≡ 20 + 4 * rules_in e + 8 * length exps + (12 + 8 * settings_in x.flag) +
    (8 * length dz + 8 * length ds + 8 * length z + 8 * length s) + 24
unfolding entry_bytes
length-entry e x exps dz ds z s =
    let size = runs_size (runs_for e x.kind x.dim1 x.dim2 x.flag) in
    length_six (row_bytes 4 (head_row size x)) (row_bytes 4 (rule_row e x.rule)) (row_bytes 8 (bits_of exps)) (search_bytes x)
    (vector_bytes dz ds z s) (result_bytes x)
    _ _ _ _ _ _ (length-head size x) (length-rule e x.rule) (length-row exps) (length-search x) (length-vectors dz ds z s)
    (length_results x)
