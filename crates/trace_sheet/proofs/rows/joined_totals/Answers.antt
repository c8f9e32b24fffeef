-- `joined_totals` meets its contract: no sum is too large, and the calls are the definition's. Assumes nothing.
use mathlib.Core.Path.{◌≡◌, ap, ◌∙◌}
use Prim.Native.Nat.{ℕ}
use native.Mathlib.Omega.{arith}
use Rattle.trace_sheet.specs.declared.counts.Largest.{Largest}
use Rattle.trace_sheet.specs.counts.Counts.{larger_of}
use Rattle.trace_sheet.specs.declared.rows.Totals.{Totals}
use Rattle.trace_sheet.specs.rows.Added.{joined_totals}
use Rattle.trace_sheet.proofs.rows.joined_totals.Goals as goal

with_largest : {f r : ℕ} {d e p q : Largest} → d ≡ e → p ≡ q → ◌≡◌ {A = Totals}
    (record { code = 0; files = f; records = r; dual = d; primal = p })
    (record { code = 0; files = f; records = r; dual = e; primal = q })
with_largest h k = rw (h, k)

-- a file number that moves up is that of a file
pub moved_up-requires : goal.moved_up-requires
moved_up-requires c some = omega (arith, c.requires.dual some, c.requires.files)

pub moved_up-requires-2 : goal.moved_up-requires-2
moved_up-requires-2 c some = omega (arith, c.requires.primal some, c.requires.files)

pub overflow_add-result-2 : goal.overflow_add-result-2
overflow_add-result-2 c = omega (arith, c.requires.records)

pub returns : goal.returns
unfolding joined_totals
returns c =
    let a = c.args in
    with_largest (c.larger_of-dual.ensures ∙ ap (larger_of a.sheet.dual) c.moved_up.ensures)
    (c.larger_of-primal.ensures ∙ ap (larger_of a.sheet.primal) c.moved_up-2.ensures)
