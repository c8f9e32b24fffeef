-- `put_vectors` meets its contract: each row behind the one before. Assumes nothing.
use mathlib.Core.List.{◌++◌}
use Prim.Native.Nat.{ℕ, ◌+◌, ◌*◌, ◌≤◌}
use native.Mathlib.Omega.{arith}
use lib.ListN.{length, length-append}
use Rattle.octets.specs.words.Words.{row_bytes}
use Rattle.octets.proofs.words.Stores.{wrote_after}
use Rattle.trace_layout.specs.pieces.Entries.{bits_of}
use Rattle.trace.specs.record_writer.Parts.{vector_bytes}
use Rattle.trace.proofs.record_writer.Bits.{length-row, length-vectors}
use Rattle.trace.proofs.record_writer.put_vectors.Goals as goal

pub overflow_add-third : goal.overflow_add-third
overflow_add-third c =
    let numbers : ℕ = length c.args.dz.now + length c.args.ds.now + length c.args.z.now + length c.args.s.now in
    let room : c.args.place + 8 * numbers ≤ length c.args.bytes.now =
    omega (arith, length-vectors c.args.dz.now c.args.ds.now c.args.z.now c.args.s.now, c.requires) in
    omega (arith, room)

pub overflow_add-fourth : goal.overflow_add-fourth
overflow_add-fourth c =
    let numbers : ℕ = length c.args.dz.now + length c.args.ds.now + length c.args.z.now + length c.args.s.now in
    let room : c.args.place + 8 * numbers ≤ length c.args.bytes.now =
    omega (arith, length-vectors c.args.dz.now c.args.ds.now c.args.z.now c.args.s.now, c.requires) in
    omega (arith, room)

pub put_row-requires : goal.put_row-requires
put_row-requires c =
    let numbers : ℕ = length c.args.dz.now + length c.args.ds.now + length c.args.z.now + length c.args.s.now in
    let room : c.args.place + 8 * numbers ≤ length c.args.bytes.now =
    omega (arith, length-vectors c.args.dz.now c.args.ds.now c.args.z.now c.args.s.now, c.requires) in
    omega (arith, room)

pub put_row-requires-2 : goal.put_row-requires-2
put_row-requires-2 c =
    let numbers : ℕ = length c.args.dz.now + length c.args.ds.now + length c.args.z.now + length c.args.s.now in
    let room : c.args.place + 8 * numbers ≤ length c.args.bytes.now =
    omega (arith, length-vectors c.args.dz.now c.args.ds.now c.args.z.now c.args.s.now, c.requires) in
    omega (arith, room)

pub put_row-requires-3 : goal.put_row-requires-3
put_row-requires-3 c =
    let numbers : ℕ = length c.args.dz.now + length c.args.ds.now + length c.args.z.now + length c.args.s.now in
    let room : c.args.place + 8 * numbers ≤ length c.args.bytes.now =
    omega (arith, length-vectors c.args.dz.now c.args.ds.now c.args.z.now c.args.s.now, c.requires) in
    omega (arith, room)

pub put_row-requires-4 : goal.put_row-requires-4
put_row-requires-4 c =
    let numbers : ℕ = length c.args.dz.now + length c.args.ds.now + length c.args.z.now + length c.args.s.now in
    let room : c.args.place + 8 * numbers ≤ length c.args.bytes.now =
    omega (arith, length-vectors c.args.dz.now c.args.ds.now c.args.z.now c.args.s.now, c.requires) in
    omega (arith, room)

pub returns : goal.returns
unfolding vector_bytes
returns c =
    let a = c.args in
    let l = a.bytes.now in
    let dz = row_bytes 8 (bits_of a.dz.now) in
    let ds = row_bytes 8 (bits_of a.ds.now) in
    let z = row_bytes 8 (bits_of a.z.now) in
    let to_ds =
    wrote_after l _ _ a.place _ dz ds c.put_row.ensures (omega (arith, length-row a.dz.now)) c.put_row-2.ensures in
    let to_z =
    wrote_after l _ _ a.place _ (dz ++ ds) z to_ds (simp (length-append, length-row) (omega arith)) c.put_row-3.ensures in
    wrote_after l _ _ a.place _ ((dz ++ ds) ++ z) (row_bytes 8 (bits_of a.s.now)) to_z (simp (length-append, length-row) (omega arith))
    c.put_row-4.ensures
