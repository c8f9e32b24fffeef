-- `put_words` meets its contract. The loop's invariant: writing the numbers that are left
-- gives what the call is to leave. Assumes nothing.
use mathlib.Core.Path.{sym, ap, ◌∙◌}
use mathlib.Core.List.{List}
use Prim.Native.Nat.{ℕ, ◌+◌, ◌*◌}
use native.Mathlib.Omega.{arith}
use lib.ListN.{length, drop, get_or}
use lib.Seq.{sets, length-sets}
use Rattle.octets.specs.words.Words.{le, row_bytes}
use Rattle.octets.proofs.words.Stores.{row-turn, row_done}
use Rattle.octets.proofs.words.put_words.Goals as goal

pub loop-x-preserved : goal.loop-x-preserved
loop-x-preserved c =
    let l = c.loop-x in
    let a = c.args in
    let wrote = c.put.ensures ∙ ap (λ (k : ℕ). sets l.bytes k (le a.n (get_or a.row.now l.x-index 0))) l.invariant.1 in (
      ap length c.put.ensures ∙ simp length-sets l.invariant.0,
      omega (arith, l.invariant.1),
      ap (λ (k : List ℕ). sets k (a.place + a.n * (l.x-index + 1)) (row_bytes a.n (drop (l.x-index + 1) a.row.now))) wrote
          ∙ row-turn a.n l.bytes a.row.now a.place l.x-index (omega arith)
          ∙ l.invariant.2,
    )

pub returns : goal.returns
returns c =
    let a = c.args in
    sym (row_done a.n c.loop-x.bytes a.row.now a.place c.loop-x.x-index (omega arith)) ∙ c.loop-x.invariant.2
