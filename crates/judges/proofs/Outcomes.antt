-- Two outcomes of a call that are equal have the same answer and leave the same slices: with one slice that is written, and with two.
-- What a call publishes goes out with its count of rounds. Assumes nothing.
use mathlib.Core.Path.{◌≡◌, ◌∙◌, refl, ap}
use mathlib.Core.List.{List}
use Prim.Native.Nat.{ℕ}
use lib.Ieee.{Float}
use Rattle.std.specs.Prelude.{Result}
use Rattle.cone.specs.declared.Rounds.{Rounds}
use Rattle.cone.specs.declared.table.Refusal.{Refusal}
use Rattle.cone.specs.table.Table.{code_of}
use Rattle.cone.proofs.table.Codes.{one_code}
use Rattle.judges.specs.Refusals.{Lent, LentTwo, counted_of, with_rounds}

module _ {A : Type 0} where
  pub one : {x y : Lent A} → x ≡ y → (x.answer ≡ y.answer) × (x.slice ≡ y.slice)
  one e = (ap (λ (o : Lent A). o.answer) e, ap (λ (o : Lent A). o.slice) e)

  pub two : {x y : LentTwo A} → x ≡ y
      → (x.answer ≡ y.answer) × ◌≡◌ {A = List Float × List Float} (x.first, x.second) (y.first, y.second)
  two e = (ap (λ (o : LentTwo A). o.answer) e, ap (λ (o : LentTwo A). (o.first, o.second)) e)

-- the same of a call that answers a refusal or none
pub one_done
    : {r s : Result (Unit {0}) Refusal} {a b : List Float}
    → ◌≡◌ {A = Lent ℕ} (record { answer = code_of r; slice = a }) (record { answer = code_of s; slice = b })
    → (r ≡ s) × (a ≡ b)
one_done {r} {s} e = (one_code _ r s (one {A = ℕ} e).0 refl, (one {A = ℕ} e).1)

pub two_done
    : {r s : Result (Unit {0}) Refusal} {a b c d : List Float}
    → ◌≡◌ {A = LentTwo ℕ} (record { answer = code_of r; first = a; second = b }) (record { answer = code_of s; first = c; second = d })
    → (r ≡ s) × ◌≡◌ {A = List Float × List Float} (a, b) (c, d)
two_done {r} {s} e = (one_code _ r s (two {A = ℕ} e).0 refl, (two {A = ℕ} e).1)

-- an answer that was published, and the number of it and its rounds
pub with-count
    : (published : Lent ℕ) (rounds : ℕ) {k : ℕ} {out : List Float} {t : Rounds}
    → record { answer = k; slice = out } ≡ published
    → t ≡ counted_of k rounds
    → record { answer = t; slice = out } ≡ with_rounds rounds published
with-count published rounds {out = out} q e = ap (λ (n : Rounds). record { answer = n; slice = out }) e ∙ ap (with_rounds rounds) q
