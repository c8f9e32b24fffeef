-- `put_exps` meets its contract. The loop's invariant: writing the lines that are left gives what the call is to leave, and no line was
-- longer than 64 bytes. The measure is the count of fields left. Assumes nothing.
use mathlib.Core.Path.{◌≡◌, ap, ◌∙◌}
use mathlib.Core.List.{◌++◌}
use Prim.Native.Nat.{ℕ, ◌+◌, ◌-◌, ◌≤◌, ◌<◌}
use native.Mathlib.Omega.{arith}
use lib.ListN.{get_or}
use Rattle.trace_sheet.specs.lines.Text.{count_line, exp_lines}
use Rattle.trace_sheet.proofs.lines.Writing.{Wrote, count_most}
use Rattle.trace_sheet.proofs.lines.Lines.{begun, turned, done, exps_here, exps_none}
use Rattle.trace_sheet.proofs.lines.put_exps.Goals as goal

pub put_count-at-requires : goal.put_count-at-requires
put_count-at-requires c =
    let field : 1 ≤ 2046 - c.loop-i.i = omega arith in
    omega (arith, c.loop-i.invariant.0, c.loop-i.invariant.1, c.loop-i.invariant.2.all, c.requires.0)

pub loop-i-preserved : goal.loop-i-preserved
loop-i-preserved c =
    let l = c.loop-i in
    let a = c.args in
    let row = a.row.now in
    let field = 2046 - l.i in
    let some : 0 < 2046 - l.i = omega arith in
    let fewer : 2046 - l.i - 1 ≡ 2046 - (l.i + 1) = omega arith in
    let line = count_line a.primal field (get_or row (field + 1) 0) in
    let wrote : Wrote l.text c.put_count-at.new.text l.at c.put_count-at.result line = c.put_count-at.ensures in (
      omega arith,
      omega (arith, wrote.0, count_most a.primal field (get_or row (field + 1) 0), l.invariant.1),
      turned a.text.now l.text c.put_count-at.new.text a.place l.at c.put_count-at.result (exp_lines a.primal row 2046)
          line (exp_lines a.primal row (2046 - (l.i + 1))) (exp_lines a.primal row field) l.invariant.2 wrote
          c.put_count-at.auto.text
          (exps_here a.primal row field some ∙ ap (λ (k : ℕ). line ++ exp_lines a.primal row k) fewer),
    )

pub returns : goal.returns
returns c =
    let l = c.loop-i in
    let a = c.args in
    let row = a.row.now in
    done a.text.now l.text a.place l.at (exp_lines a.primal row 2046) (exp_lines a.primal row (2046 - l.i)) l.invariant.2
    (exps_none a.primal row (2046 - l.i) (omega arith))

pub loop-i-init : goal.loop-i-init
loop-i-init c = (omega arith, omega arith, begun c.args.text.now c.args.place (exp_lines c.args.primal c.args.row.now 2046))

pub bounds-row-field : goal.bounds-row-field
bounds-row-field c = omega (arith, c.loop-i.invariant.0, c.requires.1)
