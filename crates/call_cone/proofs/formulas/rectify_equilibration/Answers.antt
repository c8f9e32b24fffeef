-- The answer says yes exactly where the call is done. Assumes nothing.
use mathlib.Core.Path.{◌≡◌, ◌∙◌, sym, ap}
use mathlib.Core.Bool.{Bool, true, false}
use mathlib.Core.List.{List}
use Prim.Native.Nat.{ℕ}
use lib.Ieee.{Float}
use borrow.Author.Tests.{ne_eqb}
use Rattle.std.specs.Prelude.{Result, Ok, Err}
use Rattle.cone.specs.declared.YesNo.{YesNo}
use Rattle.cone.specs.declared.table.Refusal.{Refusal}
use Rattle.cone.specs.table.Table.{number_of, code_of}
use Rattle.cone.proofs.table.Settled.{number_above_0}
use Rattle.judges.specs.Refusals.{Lent}
use Rattle.call_cone.specs.formulas.Entries.{yes_if_done, rectify_equilibration_of}
use Rattle.call_cone.proofs.formulas.rectify_equilibration.Goals as goal

module _ {l : Lent ℕ} {s : List Float} {r : Result (Unit {0}) Refusal} (p : record { answer = code_of r; slice = s } ≡ l) where
  done_yes : {u : Unit {0}} → r ≡ Ok u → record { answer = record { code = 0; yes = true }; slice = s } ≡ yes_if_done l
  done_yes i = ap yes_if_done (sym (ap (λ (x : Result (Unit {0}) Refusal). record { answer = code_of x; slice = s }) i) ∙ p)

  refused_no : {e : Refusal} {n : ℕ} → r ≡ Err e → n ≡ number_of e → record { answer = record { code = n; yes = false }; slice = s } ≡ yes_if_done l
  refused_no {e} {n} i q =
      ap (λ (b : Bool). record { answer = record { code = n; yes = b }; slice = s }) (sym (ne_eqb n 0 (λ z. number_above_0 e (sym q ∙ z))))
      ∙ ap yes_if_done (ap (λ (k : ℕ). record { answer = k; slice = s }) (q ∙ sym (ap code_of i)) ∙ p)

pub returns-in-Ok : goal.returns-in-Ok
unfolding rectify_equilibration_of
returns-in-Ok c = done_yes c.rectify.ensures c.in-Ok.is

pub returns-in-Err : goal.returns-in-Err
unfolding rectify_equilibration_of
returns-in-Err c = refused_no c.rectify.ensures c.in-Err.is c.number.ensures
