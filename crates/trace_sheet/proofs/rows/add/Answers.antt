-- `add` meets its contract: what one file adds is its own sheet, which is joined. Assumes nothing.
use mathlib.Core.Path.{◌≡◌, ap, ◌∙◌}
use mathlib.Core.Bool.{Bool, cond}
use Rattle.std.specs.Prelude.{is_some}
use Rattle.std.specs.Option.{unwrap_or}
use Rattle.trace_sheet.specs.one_file.Part.{nothing}
use Rattle.trace_sheet.specs.rows.Rows.{join_of, add_of}
use Rattle.trace_sheet.proofs.rows.Sums.{one-held}
use Rattle.trace_sheet.proofs.rows.add.Goals as goal

pub returns : goal.returns
unfolding add_of
returns c =
    let a = c.args in
    let e = c.one_file-counted.ensures in
    let part : c.unwrap_or-part.result ≡ unwrap_or c.one_file-counted.result nothing =
    c.unwrap_or-part.ensures ∙ ap (unwrap_or c.one_file-counted.result) c.nothing.ensures in
    let flag : c.flag_of.result ≡ cond (is_some c.one_file-counted.result) 0 1 =
    c.flag_of.ensures ∙ ap (λ (x : Bool). cond x 0 1) c.is_some.ensures in (
      c.join.ensures
          ∙ ap (join_of (record { totals = a.sheet; dual = a.dual.now; primal = a.primal.now; skipped = a.skipped.now }))
          (one-held a.file.now c.one_file-counted.result c.unwrap_or-part.result _ _ c.flag_of.result e.0 part e.1 e.2 flag),
      e.3,
    )
