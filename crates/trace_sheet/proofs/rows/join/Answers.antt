-- `join` meets its contract: the sum is judged, and only where no row applies the rows become the sum's. Assumes nothing.
use mathlib.Core.Path.{◌≡◌, sym, ap, ◌∙◌}
use mathlib.Core.List.{List}
use Prim.Native.Nat.{ℕ}
use native.Mathlib.Omega.{arith}
use lib.ListN.{length}
use lib.Seq.{sets}
use Rattle.cone.specs.table.Table.{number_of, code_of}
use Rattle.cone.proofs.table.Settled.{number_above_0, refused, through}
use Rattle.trace_sheet.specs.counts.Sheet.{sheets_added}
use Rattle.trace_sheet.specs.declared.rows.Totals.{Totals}
use Rattle.trace_sheet.specs.rows.Rows.{Held, sheet_in, holding, join_code, refuse, join_of}
use Rattle.trace_sheet.proofs.rows.Joining.{Fits, fits, second_flags, joined}
use Rattle.trace_sheet.proofs.rows.join.Goals as goal

with_totals : (h : Held) {t u : Totals} → t ≡ u → ◌≡◌ {A = Held}
    (record { totals = t; dual = h.dual; primal = h.primal; skipped = h.skipped })
    (record { totals = u; dual = h.dual; primal = h.primal; skipped = h.skipped })
with_totals h e = rw e

with_rows : {t u : Totals} {d e p q s r : List ℕ} → t ≡ u → d ≡ e → p ≡ q → s ≡ r → ◌≡◌ {A = Held}
    (record { totals = t; dual = d; primal = p; skipped = s }) (record { totals = u; dual = e; primal = q; skipped = r })
with_rows h i j k = rw (h, i, j, k)

pub returns-in-Err : goal.returns-in-Err
unfolding join_of
returns-in-Err c =
    let first : Held = let a = c.args in record { totals = a.sheet; dual = a.dual.now; primal = a.primal.now; skipped = a.skipped.now } in
    let second : Held =
    let a = c.args in record { totals = a.second; dual = a.dual2.now; primal = a.primal2.now; skipped = a.skipped2.now } in
    with_totals first c.refused.ensures
    ∙ refused (join_code first second) (number_of c.in-Err.refusal)
    (holding first (sheets_added (sheet_in first) (sheet_in second))) (refuse first) (sym (ap code_of c.in-Err.is) ∙ c.join_code-judged.ensures)
    (number_above_0 _)

pub sum-requires : goal.sum-requires
sum-requires c =
    let first : Held = let a = c.args in record { totals = a.sheet; dual = a.dual.now; primal = a.primal.now; skipped = a.skipped.now } in
    let second : Held =
    let a = c.args in record { totals = a.second; dual = a.dual2.now; primal = a.primal2.now; skipped = a.skipped2.now } in
    let fit : Fits first second = fits first second (sym c.join_code-judged.ensures ∙ (ap code_of c.in_default.is)) in
    (fit.first.dual ∙ sym fit.second.dual, fit.dual)

pub sum-requires-2 : goal.sum-requires-2
sum-requires-2 c =
    let first : Held = let a = c.args in record { totals = a.sheet; dual = a.dual.now; primal = a.primal.now; skipped = a.skipped.now } in
    let second : Held =
    let a = c.args in record { totals = a.second; dual = a.dual2.now; primal = a.primal2.now; skipped = a.skipped2.now } in
    let fit : Fits first second = fits first second (sym c.join_code-judged.ensures ∙ (ap code_of c.in_default.is)) in
    (fit.first.primal ∙ sym fit.second.primal, fit.primal)

pub copy-requires : goal.copy-requires
copy-requires c =
    let first : Held = let a = c.args in record { totals = a.sheet; dual = a.dual.now; primal = a.primal.now; skipped = a.skipped.now } in
    let second : Held =
    let a = c.args in record { totals = a.second; dual = a.dual2.now; primal = a.primal2.now; skipped = a.skipped2.now } in
    let fit : Fits first second = fits first second (sym c.join_code-judged.ensures ∙ (ap code_of c.in_default.is)) in
    omega (arith, ap length c.front.ensures, second_flags first second fit, fit.flags)

pub joined_totals-requires : goal.joined_totals-requires
joined_totals-requires c =
    let first : Held = let a = c.args in record { totals = a.sheet; dual = a.dual.now; primal = a.primal.now; skipped = a.skipped.now } in
    let second : Held =
    let a = c.args in record { totals = a.second; dual = a.dual2.now; primal = a.primal2.now; skipped = a.skipped2.now } in
    let fit : Fits first second = fits first second (sym c.join_code-judged.ensures ∙ (ap code_of c.in_default.is)) in
    record { files = fit.files; dual = fit.dual_file; primal = fit.primal_file; records = fit.records }

pub returns : goal.returns
unfolding join_of
returns c =
    let first : Held = let a = c.args in record { totals = a.sheet; dual = a.dual.now; primal = a.primal.now; skipped = a.skipped.now } in
    let second : Held =
    let a = c.args in record { totals = a.second; dual = a.dual2.now; primal = a.primal2.now; skipped = a.skipped2.now } in
    let fit : Fits first second = fits first second (sym c.join_code-judged.ensures ∙ (ap code_of c.in_default.is)) in
    through (join_code first second) (code_of c.join_code-judged.result) (holding first (sheets_added (sheet_in first) (sheet_in second)))
    (refuse first) c.join_code-judged.ensures
    (ap code_of c.in_default.is)
    (with_rows c.joined_totals.ensures c.sum.ensures c.sum-2.ensures
    (c.copy.ensures ∙ ap (sets first.skipped first.totals.files) c.front.ensures)
    ∙ joined first second fit)
