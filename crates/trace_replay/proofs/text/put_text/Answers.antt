-- `put_text` meets its contract: line behind line. Assumes nothing.
use mathlib.Core.Path.{◌≡◌, ◌∙◌}
use mathlib.Core.List.{◌++◌}
use Prim.Native.Nat.{◌+◌, ◌≤◌}
use native.Mathlib.Omega.{arith}
use lib.ListN.{length, length-append}
use Rattle.octets.proofs.words.Stores.{wrote_after}
use Rattle.octets.specs.lines.Lines.{ascii, line_of}
use Rattle.octets.proofs.lines.Lengths.{line_most}
use Rattle.trace_replay.specs.text.Text.{offset_lines, replay_text}
use Rattle.trace_replay.proofs.text.put_text.Goals as goal

pub put_line-third-requires : goal.put_line-third-requires
put_line-third-requires c =
    let one_at : c.put_line-second.result ≡ 0 + length (line_of (ascii "records ") c.args.records) = c.put_line-second.ensures.0 in
    let one_low : c.put_line-second.result ≤ 29 = omega (arith, one_at, line_most (ascii "records ") c.args.records) in
    omega (arith, one_low, c.requires)

pub put_line-fourth-requires : goal.put_line-fourth-requires
put_line-fourth-requires c =
    let one_at : c.put_line-second.result ≡ 0 + length (line_of (ascii "records ") c.args.records) = c.put_line-second.ensures.0 in
    let two_at : c.put_line-third.result ≡ c.put_line-second.result + length (line_of (ascii "same ") c.args.same) =
    c.put_line-third.ensures.0 in
    let one_low : c.put_line-second.result ≤ 29 = omega (arith, one_at, line_most (ascii "records ") c.args.records) in
    let two_low : c.put_line-third.result ≤ 55 = omega (arith, two_at, one_low, line_most (ascii "same ") c.args.same) in
    omega (arith, two_low, c.requires)

pub put_offsets-requires : goal.put_offsets-requires
put_offsets-requires c =
    let one_at : c.put_line-second.result ≡ 0 + length (line_of (ascii "records ") c.args.records) = c.put_line-second.ensures.0 in
    let two_at : c.put_line-third.result ≡ c.put_line-second.result + length (line_of (ascii "same ") c.args.same) =
    c.put_line-third.ensures.0 in
    let three-at : c.put_line-fourth.result ≡ c.put_line-third.result + length (line_of (ascii "differ ") c.args.differ) =
    c.put_line-fourth.ensures.0 in
    let one_low : c.put_line-second.result ≤ 29 = omega (arith, one_at, line_most (ascii "records ") c.args.records) in
    let two_low : c.put_line-third.result ≤ 55 = omega (arith, two_at, one_low, line_most (ascii "same ") c.args.same) in
    let three_low : c.put_line-fourth.result ≤ 83 = omega (arith, three-at, two_low, line_most (ascii "differ ") c.args.differ) in
    omega (arith, three_low, c.requires)

pub returns : goal.returns
unfolding replay_text
returns c =
    let one_at : c.put_line-second.result ≡ 0 + length (line_of (ascii "records ") c.args.records) = c.put_line-second.ensures.0 in
    let two_at : c.put_line-third.result ≡ c.put_line-second.result + length (line_of (ascii "same ") c.args.same) =
    c.put_line-third.ensures.0 in
    let three-at : c.put_line-fourth.result ≡ c.put_line-third.result + length (line_of (ascii "differ ") c.args.differ) =
    c.put_line-fourth.ensures.0 in
    let a = c.args in
    let b = a.bytes.now in
    let L₁ = line_of (ascii "records ") a.records in
    let L₂ = line_of (ascii "same ") a.same in
    let L₃ = line_of (ascii "differ ") a.differ in
    let O = offset_lines a.offsets.now in
    let ends_two : length (L₁ ++ L₂) ≡ c.put_line-third.result = length-append L₁ L₂ ∙ omega (arith, one_at, two_at) in
    let ends_three : length ((L₁ ++ L₂) ++ L₃) ≡ c.put_line-fourth.result
    = length-append (L₁ ++ L₂) L₃ ∙ omega (arith, ends_two, three-at) in
    let to_two = wrote_after b _ _ 0 _ L₁ L₂ c.put_line-second.ensures.1 one_at c.put_line-third.ensures.1 in
    let to_three = wrote_after b _ _ 0 _ (L₁ ++ L₂) L₃ to_two (omega (arith, ends_two)) c.put_line-fourth.ensures.1 in (
      omega (arith, c.put_offsets.ensures.0, length-append ((L₁ ++ L₂) ++ L₃) O, ends_three),
      wrote_after b _ _ 0 _ ((L₁ ++ L₂) ++ L₃) O to_three (omega (arith, ends_three)) c.put_offsets.ensures.1,
    )
