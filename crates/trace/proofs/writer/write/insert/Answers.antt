-- `insert` meets its contract: three stores, one after the other. Assumes nothing.
use Rattle.trace.specs.record_writer.Parts.{entry_bytes}
use Rattle.trace.specs.writer.Entries.{end_bytes, insert_of}
use lib.Seq.{sets}
use Prim.Native.Nat.{ℕ, ◌+◌, ◌*◌}
use mathlib.Core.List.{List}
use mathlib.Core.Path.{◌∙◌, ap}
use Rattle.trace.proofs.writer.write.insert.Goals as goal

pub returns : goal.returns
unfolding insert_of
returns c =
    let a = c.args in
    let p = a.place in
    let next = p.list + p.size in
    let new = entry_bytes p.edition a.x a.exps.now a.dz.now a.ds.now a.z.now a.s.now in
    let end = end_bytes p.list next (p.count + 1) p.edition in
    c.put_end.ensures ∙ ap (λ (l : List ℕ). sets l (next + 8 * p.count) end)
    (c.put_record.ensures ∙ ap (λ (l : List ℕ). sets l p.list new) c.move_up.ensures)
