-- `walk` meets its contract. The loop's invariant: what is left to walk decides the whole walk, and the
-- place is in the body. Assumes nothing.
use Rattle.trace_layout.proofs.pieces.Shapes.{none_is_not}
use Rattle.trace.proofs.reader.Places.{found_laid, found_inside}
use Rattle.trace.proofs.judge.Walking.{not_laid, other_entry, walked_on, walked_all}
use mathlib.Core.Path.{◌≡◌, sym, ◌∙◌}
use Prim.Native.Nat.{◌-◌}
use lib.ListN.{drop}
use native.Mathlib.Omega.{arith}
use Rattle.trace.proofs.judge.walk.Goals as goal

pub loop-i-init : goal.loop-i-init
loop-i-init c =
    let all : c.args.count - 0 ≡ c.args.count = omega arith in (omega arith, omega arith, rw all)

pub returns-in_default : goal.returns-in_default
returns-in_default c =
    let l = c.loop-i in
    let a = c.args in
    not_laid a.edition a.count l.at l.i a.body.now a.entries.now (omega arith)
    (none_is_not a.edition (drop l.at a.body.now) (sym c.current_in.ensures ∙ c.in_default.is)) ∙ l.invariant.2

pub returns-then-u64_at-at : goal.returns-then-u64_at-at
returns-then-u64_at-at c =
    let l = c.loop-i in
    let a = c.args in
    let laid = found_laid a.body.now l.at a.edition c.in-Some.shape (sym c.current_in.ensures ∙ c.in-Some.is) in
    other_entry a.edition a.count l.at l.i a.body.now a.entries.now (omega arith) laid.0
    (λ e. c.if-u64_at-at.true (c.u64_at.ensures ∙ e)) ∙ l.invariant.2

pub overflow_add-at : goal.overflow_add-at
overflow_add-at c =
    let a = c.args in
    omega (arith, found_inside a.body.now c.loop-i.at a.edition c.in-Some.shape (sym c.current_in.ensures ∙ c.in-Some.is), c.well_formed.0)

pub loop-i-preserved : goal.loop-i-preserved
loop-i-preserved c =
    let l = c.loop-i in
    let a = c.args in
    let is = sym c.current_in.ensures ∙ c.in-Some.is in
    let laid = found_laid a.body.now l.at a.edition c.in-Some.shape is in (
      omega arith,
      found_inside a.body.now l.at a.edition c.in-Some.shape is,
      walked_on a.edition a.count l.at l.i a.body.now a.entries.now (omega arith) _ laid.0 laid.1
          (sym c.u64_at.ensures ∙ c.if-u64_at-at.false) ∙ l.invariant.2,
    )

pub returns : goal.returns
returns c =
    let l = c.loop-i in
    let a = c.args in
    walked_all a.edition a.count l.at l.i a.body.now a.entries.now (omega arith) l.invariant.1 ∙ l.invariant.2
