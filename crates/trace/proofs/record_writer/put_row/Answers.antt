-- `put_row` meets its contract. The loop's invariant: writing the numbers that are left
-- gives what the call is to leave. Assumes nothing.
use mathlib.Core.Path.{refl, sym, ap, ◌∙◌}
use mathlib.Core.List.{List}
use Prim.Native.Nat.{ℕ, ◌+◌, ◌*◌}
use native.Mathlib.Omega.{arith}
use lib.ListN.{length, drop}
use lib.Seq.{sets, length-sets}
use Rattle.octets.specs.words.Words.{le, row_bytes}
use Rattle.octets.proofs.words.Stores.{row-turn, row-begun, row_done}
use Rattle.trace.proofs.record_writer.Bits.{length-bits_of, bits_at}
use Rattle.trace_layout.specs.pieces.Entries.{bits_of}
use Rattle.trace.proofs.record_writer.put_row.Goals as goal

pub loop-i-init : goal.loop-i-init
loop-i-init c = let a = c.args in (omega arith, refl, row-begun 8 a.bytes.now (bits_of a.row.now) a.place)

pub put-requires : goal.put-requires
put-requires c = omega (arith, c.loop-i.invariant.1, c.requires)

pub loop-i-preserved : goal.loop-i-preserved
loop-i-preserved c =
    let l = c.loop-i in
    let a = c.args in
    let wrote = c.put.ensures in
    let number = c.to_bits.ensures ∙ bits_at a.row.now l.i (omega arith) in (
      omega arith,
      ap length wrote ∙ simp length-sets l.invariant.1,
      ap (λ (k : List ℕ). sets k (a.place + 8 * (l.i + 1)) (row_bytes 8 (drop (l.i + 1) (bits_of a.row.now))))
          (wrote ∙ ap (λ (k : ℕ). sets l.bytes (a.place + 8 * l.i) (le 8 k)) number)
          ∙ row-turn 8 l.bytes (bits_of a.row.now) a.place l.i (omega (arith, length-bits_of a.row.now)) ∙ l.invariant.2,
    )

pub returns : goal.returns
returns c =
    let a = c.args in
    let l = c.loop-i in
    sym (row_done 8 l.bytes (bits_of a.row.now) a.place l.i (omega (arith, length-bits_of a.row.now))) ∙ l.invariant.2
