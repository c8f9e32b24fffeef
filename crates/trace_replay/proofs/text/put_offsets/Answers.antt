-- `put_offsets` meets its contract. The loop's invariant: writing the lines that are left gives what the call is to leave, and no line was
-- longer than 24 bytes. Assumes nothing.
use mathlib.Core.Path.{◌≡◌, refl, sym, ap, ◌∙◌}
use mathlib.Core.List.{List}
use Prim.Native.Nat.{ℕ, ◌+◌, ◌<◌}
use native.Mathlib.Omega.{arith}
use lib.ListN.{length, drop, get_or}
use lib.Seq.{sets}
use Rattle.octets.specs.lines.Lines.{ascii, line_of}
use Rattle.octets.proofs.lines.Lengths.{line_most}
use Rattle.trace_replay.specs.text.Text.{offset_lines}
use Rattle.trace_replay.proofs.text.Lines.{lines_turn, lines_length, no_more}
use Rattle.trace_replay.proofs.text.put_offsets.Goals as goal

pub put_offset-at-requires : goal.put_offset-at-requires
put_offset-at-requires c = omega (arith, c.loop-offset.invariant.0, c.loop-offset.invariant.1, c.requires)

pub loop-offset-preserved : goal.loop-offset-preserved
loop-offset-preserved c =
    let l = c.loop-offset in
    let i = l.offset-index in
    let os = c.args.offsets.now in
    let early : i < length os = omega arith in
    let line = line_of (ascii "at ") (get_or os i 0) in
    let place : c.put_offset-at.result ≡ l.at + length line = c.put_offset-at.ensures.0 in
    let wrote : c.put_offset-at.new.bytes ≡ sets l.bytes l.at line = c.put_offset-at.ensures.1 in (
      c.put_offset-at.auto.bytes ∙ l.invariant.0,
      omega (arith, place, line_most (ascii "at ") (get_or os i 0), l.invariant.1),
      omega (arith, place, lines_length os i early, l.invariant.2),
      ap (λ (b : List ℕ). sets b c.put_offset-at.result (offset_lines (drop (i + 1) os))) wrote
          ∙ ap (λ (k : ℕ). sets (sets l.bytes l.at line) k (offset_lines (drop (i + 1) os))) place
          ∙ lines_turn os i early l.bytes l.at
          ∙ l.invariant.3,
    )

pub returns : goal.returns
returns c =
    let l = c.loop-offset in
    let none = no_more c.args.offsets.now l.offset-index (omega arith) in
    (omega (arith, l.invariant.2, ap length none), ap (sets l.bytes l.at) (sym none) ∙ l.invariant.3)

pub loop-offset-init : goal.loop-offset-init
loop-offset-init c = (refl, omega arith, refl, refl)
