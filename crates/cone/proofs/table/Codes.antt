-- A number of the table is that of one refusal: what C is told determines the answer. Assumes nothing.
use mathlib.Core.Path.{◌≡◌, refl, sym, ◌∙◌, ap}
use mathlib.Core.Bool.{cond}
use Prim.Native.Nat.{ℕ}
use Rattle.std.specs.Prelude.{Result, Ok, Err, eqb}
use Rattle.cone.specs.declared.table.Refusal.{Refusal}
use Rattle.cone.specs.declared.table.Refusal.TheVariants.{BadCone, WrongLength, NotFinite, BadSettings, NeverScaled, WouldPanic, AnswerNotFinite}
use Rattle.cone.specs.declared.table.Refusal.TheVariants.{NoRoom, BrokenTrace, OtherSerial, LastSerial}
use Rattle.cone.specs.table.Table.{code_of}

-- the answer that a number stands for
abbrev answer_at : ℕ → Result (Unit {0}) Refusal
answer_at n =
    cond (eqb n 1) (Err BadCone)
    (cond (eqb n 2) (Err WrongLength)
    (cond (eqb n 3) (Err NotFinite)
    (cond (eqb n 4) (Err BadSettings)
    (cond (eqb n 5) (Err NeverScaled)
    (cond (eqb n 6) (Err WouldPanic)
    (cond (eqb n 7) (Err AnswerNotFinite)
    (cond (eqb n 8) (Err NoRoom)
    (cond (eqb n 9) (Err BrokenTrace)
    (cond (eqb n 10) (Err OtherSerial)
    (cond (eqb n 11) (Err LastSerial)
    (Ok tt)))))))))))

at_code : (r : Result (Unit {0}) Refusal) → answer_at (code_of r) ≡ r
at_code (Ok tt) = refl
at_code (Err BadCone) = refl
at_code (Err WrongLength) = refl
at_code (Err NotFinite) = refl
at_code (Err BadSettings) = refl
at_code (Err NeverScaled) = refl
at_code (Err WouldPanic) = refl
at_code (Err AnswerNotFinite) = refl
at_code (Err NoRoom) = refl
at_code (Err BrokenTrace) = refl
at_code (Err OtherSerial) = refl
at_code (Err LastSerial) = refl

-- two answers with the number k are the same
pub one_code : (k : ℕ) (r s : Result (Unit {0}) Refusal) → code_of r ≡ k → code_of s ≡ k → r ≡ s
one_code k r s p q = sym (at_code r) ∙ ap answer_at (p ∙ sym q) ∙ at_code s
