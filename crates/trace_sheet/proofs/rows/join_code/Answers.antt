-- `join_code` meets its contract: each judge is the definition's. Assumes nothing.
use mathlib.Core.Path.{◌≡◌, ◌∙◌}
use mathlib.Core.Bool.{Bool, not, ◌&&◌, ◌||◌}
use Rattle.trace_sheet.specs.rows.Rows.{sheet_row, join_code}
use Rattle.trace_sheet.proofs.rows.join_code.Goals as goal

judged : {r r' s s' n n' o o' d d' p p' : Bool} → r ≡ r' → s ≡ s' → n ≡ n' → o ≡ o' → d ≡ d' → p ≡ p'
    → sheet_row (not (r && s)) (not n) (o || d || p) ≡ sheet_row (not (r' && s')) (not n') (o' || d' || p')
judged h₁ h₂ h₃ h₄ h₅ h₆ = rw (h₁, h₂, h₃, h₄, h₅, h₆)

pub returns : goal.returns
unfolding join_code
returns c =
    c.sheet_row.ensures
    ∙ judged c.rows_ok-first_ok.ensures c.rows_ok-second_ok.ensures c.names_ok-named.ensures c.no_room-none.ensures
    c.spills-dual_spills.ensures c.spills-primal_spills.ensures
