-- `recorded` meets its contract: each part is read at its place. Assumes nothing.
use mathlib.Core.Path.{◌∙◌, ap}
use Rattle.trace.specs.value.Recorded.{row_in}
use Rattle.trace.proofs.value.Assembled.{all_read}
use Rattle.trace.proofs.value.Found.recorded.Goals as goal

pub returns : goal.returns
returns c =
    let f = c.args.self in
    let n = c.numbers-n.result in
    all_read f.edition f.bytes.now f.shape f.read _ _ _ _ _ _ _ _ n c.vectors_place-place.result
    c.cone-cone.ensures c.settings-settings.ensures c.steps-steps.ensures c.numbers-n.ensures.0 c.vectors_place-place.ensures.0
    (c.row-dz.ensures ∙ ap (row_in 64 n) c.behind.ensures)
    (c.row-ds.ensures ∙ ap (row_in 64 n) c.behind-2.ensures)
    (c.row-z.ensures ∙ ap (row_in 64 n) c.behind-3.ensures)
    (c.row-s.ensures ∙ ap (row_in 64 n) c.behind-4.ensures)
