-- `spills` meets its contract. The loop's invariant: the answer is that of the places from here on. Assumes nothing.
use mathlib.Core.Path.{◌≡◌, refl, sym, ◌∙◌}
use Prim.Native.Nat.{◌<◌, ◌+◌, ◌≤◌}
use native.Mathlib.Omega.{arith}
use lib.ListN.{length, get_or}
use borrow.Author.Tests.{ltb-true, ltb-false}
use Rattle.std.proofs.lemmas.Grind.{get_or_default_zero}
use Rattle.trace_sheet.proofs.rows.Summing.{most, none_first, none-second, spilled, fitted}
use Rattle.trace_sheet.proofs.rows.spills.Goals as goal

pub loop-i-init : goal.loop-i-init
loop-i-init c = refl

pub returns : goal.returns
returns c = sym (none_first c.args.row.now c.args.more.now c.loop-i.i (omega (arith, c.loop-i-test.false))) ∙ c.loop-i.invariant

pub returns-in_default : goal.returns-in_default
returns-in_default c =
    let short = ltb-false c.loop-i.i (length c.args.more.now) (sym c.in_default.ensures.lookup.0) in
    sym (none-second c.args.row.now c.args.more.now c.loop-i.i short) ∙ c.loop-i.invariant

-- both rows have the place

pub returns-then-x-y : goal.returns-then-x-y
returns-then-x-y c =
    let a = c.args in
    let found = c.in-Some.ensures.lookup in
    let others = ltb-true c.loop-i.i (length a.more.now) (sym found.0) in
    let other = found.1 ∙ get_or_default_zero a.more.now c.loop-i.i _ others in
    let above : most < get_or a.row.now c.loop-i.i 0 + get_or a.more.now c.loop-i.i 0 = omega (arith, c.if-x-y.true, other) in
    sym (spilled a.row.now a.more.now c.loop-i.i (omega (arith, c.loop-i-test.true)) others above) ∙ c.loop-i.invariant

pub loop-i-preserved : goal.loop-i-preserved
loop-i-preserved c =
    let a = c.args in
    let found = c.in-Some.ensures.lookup in
    let others = ltb-true c.loop-i.i (length a.more.now) (sym found.0) in
    let other = found.1 ∙ get_or_default_zero a.more.now c.loop-i.i _ others in
    let room : get_or a.row.now c.loop-i.i 0 + get_or a.more.now c.loop-i.i 0 ≤ most =
    omega (arith, c.if-x-y.false, other, c.type_inv.row c.loop-i.i) in
    fitted a.row.now a.more.now c.loop-i.i (omega (arith, c.loop-i-test.true)) others room ∙ c.loop-i.invariant
