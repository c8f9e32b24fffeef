-- What a call over a record has that its rows let through, and the rows with the call's own numbers judged. Assumes nothing.
use mathlib.Core.Path.{◌≡◌, ◌∙◌, sym, ap}
use mathlib.Core.Bool.{Bool, not, ◌&&◌}
use Prim.Native.Nat.{ℕ}
use Rattle.cone.specs.declared.table.Faults.{Faults}
use Rattle.cone.specs.table.Table.{first_row}
use Rattle.cone.proofs.table.Settled.{NoFault, no_fault}
use Rattle.call_record.specs.Rows.{record_rows}

pub let_through : (f : Faults) {k : ℕ} → k ≡ first_row f → k ≡ 0 → NoFault f
let_through f e z = no_fault f (sym e ∙ z)

pub own-numbers
    : (cone length kept unscaled serial : Bool) {own own' : Bool} {k : ℕ}
    → k ≡ record_rows cone length (not (own && kept)) unscaled serial
    → own ≡ own'
    → k ≡ record_rows cone length (not (own' && kept)) unscaled serial
own-numbers cone length kept unscaled serial e p =
    e ∙ ap (λ (finite : Bool). record_rows cone length (not (finite && kept)) unscaled serial) p
