-- `put_text` meets its contract: line behind line. Assumes nothing.
use mathlib.Core.Path.{◌≡◌, ◌∙◌}
use mathlib.Core.List.{◌++◌}
use Prim.Native.Nat.{◌+◌, ◌≤◌}
use native.Mathlib.Omega.{arith}
use lib.ListN.{length, length-append}
use Rattle.octets.proofs.words.Stores.{wrote_after}
use Rattle.octets.specs.lines.Lines.{ascii, line_of}
use Rattle.octets.proofs.lines.Lengths.{line_most}
use Rattle.trace_thin.specs.file.Text.{thin_text}
use Rattle.trace_thin.proofs.file.put_text.Goals as goal

pub put_line-third-requires : goal.put_line-third-requires
put_line-third-requires c =
    let one_at : c.put_line-second.result ≡ 0 + length (line_of (ascii "length ") c.args.new) = c.put_line-second.ensures.0 in
    let one_low : c.put_line-second.result ≤ 28 = omega (arith, one_at, line_most (ascii "length ") c.args.new) in
    omega (arith, one_low, c.requires)

pub put_line-requires : goal.put_line-requires
put_line-requires c =
    let one_at : c.put_line-second.result ≡ 0 + length (line_of (ascii "length ") c.args.new) = c.put_line-second.ensures.0 in
    let two_at : c.put_line-third.result ≡ c.put_line-second.result + length (line_of (ascii "kept ") c.args.kept) =
    c.put_line-third.ensures.0 in
    let one_low : c.put_line-second.result ≤ 28 = omega (arith, one_at, line_most (ascii "length ") c.args.new) in
    let two_low : c.put_line-third.result ≤ 54 = omega (arith, two_at, one_low, line_most (ascii "kept ") c.args.kept) in
    omega (arith, two_low, c.requires)

pub returns : goal.returns
unfolding thin_text
returns c =
    let one_at : c.put_line-second.result ≡ 0 + length (line_of (ascii "length ") c.args.new) = c.put_line-second.ensures.0 in
    let two_at : c.put_line-third.result ≡ c.put_line-second.result + length (line_of (ascii "kept ") c.args.kept) =
    c.put_line-third.ensures.0 in
    let a = c.args in
    let L₁ = line_of (ascii "length ") a.new in
    let L₂ = line_of (ascii "kept ") a.kept in
    let L₃ = line_of (ascii "dropped ") a.dropped in
    let ends_two : length (L₁ ++ L₂) ≡ c.put_line-third.result = length-append L₁ L₂ ∙ omega (arith, one_at, two_at) in
    let to_two = wrote_after a.text.now _ _ 0 _ L₁ L₂ c.put_line-second.ensures.1 one_at c.put_line-third.ensures.1 in (
      omega (arith, c.put_line.ensures.0, length-append (L₁ ++ L₂) L₃, ends_two),
      wrote_after a.text.now _ _ 0 _ (L₁ ++ L₂) L₃ to_two (omega (arith, ends_two)) c.put_line.ensures.1,
    )
