-- `put_record` meets its contract: each part is stored behind the one before. Assumes nothing.
use mathlib.Core.Path.{◌≡◌, ap, ◌∙◌}
use mathlib.Core.List.{◌++◌}
use Prim.Native.Nat.{ℕ, ◌+◌, ◌*◌, ◌≤◌}
use native.Mathlib.Omega.{arith}
use lib.ListN.{length, length-append}
use lib.Seq.{sets}
use Rattle.octets.specs.words.Words.{row_bytes}
use Rattle.octets.specs.words.Runs.{runs_size}
use Rattle.octets.proofs.words.Stores.{wrote_after}
use Rattle.trace_layout.specs.Records.{rules_in, settings_in, runs_for}
use Rattle.trace_layout.specs.pieces.Entries.{bits_of}
use Rattle.trace.specs.record_writer.Parts.{head_row, rule_row, search_bytes, result_bytes, vector_bytes, entry_bytes}
use Rattle.trace.proofs.record_writer.Bits.{length-row, length-vectors}
use Rattle.trace.proofs.record_writer.Parts.{length-head, length-rule, length-search, length-entry}
use Rattle.trace.proofs.record_writer.put_record.Goals as goal

pub overflow_mul-third : goal.overflow_mul-third
overflow_mul-third c =
    let sum : ℕ =
    20 + 4 * rules_in c.args.edition + 8 * length c.args.exps.now + (12 + 8 * settings_in c.args.x.flag) +
    (8 * length c.args.dz.now + 8 * length c.args.ds.now + 8 * length c.args.z.now + 8 * length c.args.s.now) + 24 in
    let room : c.args.place + sum ≤ length c.args.bytes.now =
    let a = c.args in omega (arith, length-entry a.edition a.x a.exps.now a.dz.now a.ds.now a.z.now a.s.now, c.requires) in
    omega (arith, room, c.rules_in.ensures)

pub overflow_add-third : goal.overflow_add-third
overflow_add-third c =
    let sum : ℕ =
    20 + 4 * rules_in c.args.edition + 8 * length c.args.exps.now + (12 + 8 * settings_in c.args.x.flag) +
    (8 * length c.args.dz.now + 8 * length c.args.ds.now + 8 * length c.args.z.now + 8 * length c.args.s.now) + 24 in
    let room : c.args.place + sum ≤ length c.args.bytes.now =
    let a = c.args in omega (arith, length-entry a.edition a.x a.exps.now a.dz.now a.ds.now a.z.now a.s.now, c.requires) in
    omega (arith, room, c.rules_in.ensures)

pub overflow_add-fourth : goal.overflow_add-fourth
overflow_add-fourth c =
    let sum : ℕ =
    20 + 4 * rules_in c.args.edition + 8 * length c.args.exps.now + (12 + 8 * settings_in c.args.x.flag) +
    (8 * length c.args.dz.now + 8 * length c.args.ds.now + 8 * length c.args.z.now + 8 * length c.args.s.now) + 24 in
    let room : c.args.place + sum ≤ length c.args.bytes.now =
    let a = c.args in omega (arith, length-entry a.edition a.x a.exps.now a.dz.now a.ds.now a.z.now a.s.now, c.requires) in
    omega (arith, room, c.rules_in.ensures)

pub overflow_add-fifth : goal.overflow_add-fifth
overflow_add-fifth c =
    let sum : ℕ =
    20 + 4 * rules_in c.args.edition + 8 * length c.args.exps.now + (12 + 8 * settings_in c.args.x.flag) +
    (8 * length c.args.dz.now + 8 * length c.args.ds.now + 8 * length c.args.z.now + 8 * length c.args.s.now) + 24 in
    let room : c.args.place + sum ≤ length c.args.bytes.now =
    let a = c.args in omega (arith, length-entry a.edition a.x a.exps.now a.dz.now a.ds.now a.z.now a.s.now, c.requires) in
    omega (arith, room, c.rules_in.ensures)

pub overflow_mul-fifth : goal.overflow_mul-fifth
overflow_mul-fifth c =
    let sum : ℕ =
    20 + 4 * rules_in c.args.edition + 8 * length c.args.exps.now + (12 + 8 * settings_in c.args.x.flag) +
    (8 * length c.args.dz.now + 8 * length c.args.ds.now + 8 * length c.args.z.now + 8 * length c.args.s.now) + 24 in
    let room : c.args.place + sum ≤ length c.args.bytes.now =
    let a = c.args in omega (arith, length-entry a.edition a.x a.exps.now a.dz.now a.ds.now a.z.now a.s.now, c.requires) in
    omega (arith, room, c.rules_in.ensures, c.settings_in.ensures)

pub overflow_add-fifth-2 : goal.overflow_add-fifth-2
overflow_add-fifth-2 c =
    let sum : ℕ =
    20 + 4 * rules_in c.args.edition + 8 * length c.args.exps.now + (12 + 8 * settings_in c.args.x.flag) +
    (8 * length c.args.dz.now + 8 * length c.args.ds.now + 8 * length c.args.z.now + 8 * length c.args.s.now) + 24 in
    let room : c.args.place + sum ≤ length c.args.bytes.now =
    let a = c.args in omega (arith, length-entry a.edition a.x a.exps.now a.dz.now a.ds.now a.z.now a.s.now, c.requires) in
    omega (arith, room, c.rules_in.ensures, c.settings_in.ensures)

pub overflow_mul-sixth : goal.overflow_mul-sixth
overflow_mul-sixth c =
    let sum : ℕ =
    20 + 4 * rules_in c.args.edition + 8 * length c.args.exps.now + (12 + 8 * settings_in c.args.x.flag) +
    (8 * length c.args.dz.now + 8 * length c.args.ds.now + 8 * length c.args.z.now + 8 * length c.args.s.now) + 24 in
    let room : c.args.place + sum ≤ length c.args.bytes.now =
    let a = c.args in omega (arith, length-entry a.edition a.x a.exps.now a.dz.now a.ds.now a.z.now a.s.now, c.requires) in
    omega (arith, room, c.rules_in.ensures, c.settings_in.ensures)

pub overflow_add-sixth-4 : goal.overflow_add-sixth-4
overflow_add-sixth-4 c =
    let sum : ℕ =
    20 + 4 * rules_in c.args.edition + 8 * length c.args.exps.now + (12 + 8 * settings_in c.args.x.flag) +
    (8 * length c.args.dz.now + 8 * length c.args.ds.now + 8 * length c.args.z.now + 8 * length c.args.s.now) + 24 in
    let room : c.args.place + sum ≤ length c.args.bytes.now =
    let a = c.args in omega (arith, length-entry a.edition a.x a.exps.now a.dz.now a.ds.now a.z.now a.s.now, c.requires) in
    omega (arith, room, c.rules_in.ensures, c.settings_in.ensures)

-- ---- no part changes the slice's length

pub put_head-requires : goal.put_head-requires
put_head-requires c =
    let sum : ℕ =
    20 + 4 * rules_in c.args.edition + 8 * length c.args.exps.now + (12 + 8 * settings_in c.args.x.flag) +
    (8 * length c.args.dz.now + 8 * length c.args.ds.now + 8 * length c.args.z.now + 8 * length c.args.s.now) + 24 in
    let room : c.args.place + sum ≤ length c.args.bytes.now =
    let a = c.args in omega (arith, length-entry a.edition a.x a.exps.now a.dz.now a.ds.now a.z.now a.s.now, c.requires) in
    omega (arith, room)

pub put_rule-requires : goal.put_rule-requires
put_rule-requires c =
    let sum : ℕ =
    20 + 4 * rules_in c.args.edition + 8 * length c.args.exps.now + (12 + 8 * settings_in c.args.x.flag) +
    (8 * length c.args.dz.now + 8 * length c.args.ds.now + 8 * length c.args.z.now + 8 * length c.args.s.now) + 24 in
    let room : c.args.place + sum ≤ length c.args.bytes.now =
    let a = c.args in omega (arith, length-entry a.edition a.x a.exps.now a.dz.now a.ds.now a.z.now a.s.now, c.requires) in
    omega (arith, room)

pub put_row-requires : goal.put_row-requires
put_row-requires c =
    let sum : ℕ =
    20 + 4 * rules_in c.args.edition + 8 * length c.args.exps.now + (12 + 8 * settings_in c.args.x.flag) +
    (8 * length c.args.dz.now + 8 * length c.args.ds.now + 8 * length c.args.z.now + 8 * length c.args.s.now) + 24 in
    let room : c.args.place + sum ≤ length c.args.bytes.now =
    let a = c.args in omega (arith, length-entry a.edition a.x a.exps.now a.dz.now a.ds.now a.z.now a.s.now, c.requires) in
    omega (arith, room, c.rules_in.ensures)

pub put_search-requires : goal.put_search-requires
put_search-requires c =
    let sum : ℕ =
    20 + 4 * rules_in c.args.edition + 8 * length c.args.exps.now + (12 + 8 * settings_in c.args.x.flag) +
    (8 * length c.args.dz.now + 8 * length c.args.ds.now + 8 * length c.args.z.now + 8 * length c.args.s.now) + 24 in
    let room : c.args.place + sum ≤ length c.args.bytes.now =
    let a = c.args in omega (arith, length-entry a.edition a.x a.exps.now a.dz.now a.ds.now a.z.now a.s.now, c.requires) in
    omega (arith, room, c.rules_in.ensures)

pub put_vectors-requires : goal.put_vectors-requires
put_vectors-requires c =
    let sum : ℕ =
    20 + 4 * rules_in c.args.edition + 8 * length c.args.exps.now + (12 + 8 * settings_in c.args.x.flag) +
    (8 * length c.args.dz.now + 8 * length c.args.ds.now + 8 * length c.args.z.now + 8 * length c.args.s.now) + 24 in
    let room : c.args.place + sum ≤ length c.args.bytes.now =
    let a = c.args in omega (arith, length-entry a.edition a.x a.exps.now a.dz.now a.ds.now a.z.now a.s.now, c.requires) in
    let a = c.args in
    omega (
      arith,
      room,
      c.rules_in.ensures,
      c.settings_in.ensures,
      length-vectors a.dz.now a.ds.now a.z.now a.s.now,
    )

pub put_results-requires : goal.put_results-requires
put_results-requires c =
    let sum : ℕ =
    20 + 4 * rules_in c.args.edition + 8 * length c.args.exps.now + (12 + 8 * settings_in c.args.x.flag) +
    (8 * length c.args.dz.now + 8 * length c.args.ds.now + 8 * length c.args.z.now + 8 * length c.args.s.now) + 24 in
    let room : c.args.place + sum ≤ length c.args.bytes.now =
    let a = c.args in omega (arith, length-entry a.edition a.x a.exps.now a.dz.now a.ds.now a.z.now a.s.now, c.requires) in
    omega (
      arith,
      room,
      c.rules_in.ensures,
      c.settings_in.ensures,
    )

pub returns : goal.returns
unfolding entry_bytes
returns c =
    let a = c.args in
    let l = a.bytes.now in
    let size = runs_size (runs_for a.edition a.x.kind a.x.dim1 a.x.dim2 a.x.flag) in
    let H = row_bytes 4 (head_row size a.x) in
    let R = row_bytes 4 (rule_row a.edition a.x.rule) in
    let X = row_bytes 8 (bits_of a.exps.now) in
    let S = search_bytes a.x in
    let Vs = vector_bytes a.dz.now a.ds.now a.z.now a.s.now in
    let rules = c.rules_in.ensures in
    let settings = c.settings_in.ensures in
    let one : length H ≡ 20 = length-head size a.x in
    let two : length (H ++ R) ≡ 20 + 4 * rules_in a.edition =
    length-append H R ∙ omega (arith, one, length-rule a.edition a.x.rule) in
    let three : length ((H ++ R) ++ X) ≡ 20 + 4 * rules_in a.edition + 8 * length a.exps.now =
    length-append (H ++ R) X ∙ omega (arith, two, length-row a.exps.now) in
    let four : length (((H ++ R) ++ X) ++ S) ≡ 32 + 4 * rules_in a.edition + 8 * length a.exps.now + 8 * settings_in a.x.flag =
    length-append ((H ++ R) ++ X) S ∙ omega (arith, three, length-search a.x) in
    let to_head =
    c.put_head.ensures ∙ ap (λ (n : ℕ). sets l a.place (row_bytes 4 (head_row n a.x))) c.size_for-size.ensures in
    let to_rule = wrote_after l _ _ a.place _ H R to_head (omega (arith, one)) c.put_rule.ensures in
    let to_exps = wrote_after l _ _ a.place _ (H ++ R) X to_rule (omega (arith, two, rules)) c.put_row.ensures in
    let to_search = wrote_after l _ _ a.place _ ((H ++ R) ++ X) S to_exps (omega (arith, three, rules)) c.put_search.ensures in
    let to_vectors =
    wrote_after l _ _ a.place _ (((H ++ R) ++ X) ++ S) Vs to_search (omega (arith, four, rules, settings)) c.put_vectors.ensures in
    wrote_after l _ _ a.place _ ((((H ++ R) ++ X) ++ S) ++ Vs) (result_bytes a.x) to_vectors
    (omega (
      arith,
      length-append (((H ++ R) ++ X) ++ S) Vs,
      four,
      length-vectors a.dz.now a.ds.now a.z.now a.s.now,
      rules,
      settings,
    )) c.put_results.ensures
