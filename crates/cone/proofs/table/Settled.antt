-- A call that leaves with its rows' number is refused with it, one whose rows give 0 goes on, and then no row applied. Assumes nothing.
use mathlib.Core.Path.{◌≡◌, refl, sym, ◌∙◌, ap, subst}
use mathlib.Core.Bool.{Bool, true, false, cond, ◌&&◌}
use Prim.Native.Nat.{ℕ, zero, suc, ◌<◌}
use native.Mathlib.Omega.{arith}
use Rattle.cone.specs.declared.table.Faults.{Faults}
use Rattle.std.specs.Prelude.{Result, Ok, Err}
use Rattle.cone.specs.declared.table.Refusal.{Refusal}
use Rattle.cone.specs.declared.table.Refusal.TheVariants.{BadCone, WrongLength, NotFinite, BadSettings, NeverScaled, WouldPanic, AnswerNotFinite}
use Rattle.cone.specs.declared.table.Refusal.TheVariants.{NoRoom, BrokenTrace, OtherSerial, LastSerial}
use Rattle.cone.specs.table.Table.{number_of, code_of, first_row, trace_row, settle}

-- no refusal has the number of "done"
pub number_above_0 : (e : Refusal) → number_of e ≡ 0 → ⊥
number_above_0 BadCone p = absurd (omega arith)
number_above_0 WrongLength p = absurd (omega arith)
number_above_0 NotFinite p = absurd (omega arith)
number_above_0 BadSettings p = absurd (omega arith)
number_above_0 NeverScaled p = absurd (omega arith)
number_above_0 WouldPanic p = absurd (omega arith)
number_above_0 AnswerNotFinite p = absurd (omega arith)
number_above_0 NoRoom p = absurd (omega arith)
number_above_0 BrokenTrace p = absurd (omega arith)
number_above_0 OtherSerial p = absurd (omega arith)
number_above_0 LastSerial p = absurd (omega arith)

pub refused : {A : Type 0} (k r : ℕ) (d : A) (f : ℕ → A) → r ≡ k → (r ≡ 0 → ⊥) → f r ≡ settle k d f
unfolding settle
refused zero r d f e n = absurd (n e)
refused (suc k) r d f e n = ap f e

pub done : {A : Type 0} (k r : ℕ) (d : A) (f : ℕ → A) → r ≡ k → r ≡ 0 → d ≡ settle k d f
unfolding settle
done k r d f e z = subst (λ (n : ℕ). d ≡ settle n d f) (sym z ∙ e) refl

-- the same of a call whose rows answer a refusal or none
pub refused_by : {A : Type 0} (k n : ℕ) (r : Result (Unit {0}) Refusal) (e : Refusal) (d : A) (f : ℕ → A) → code_of r ≡ k → r ≡ Err e → n ≡ number_of e → f n ≡ settle k d f
refused_by k n r e d f p i q = refused k n d f (q ∙ sym (ap code_of i) ∙ p) (λ z. number_above_0 e (sym q ∙ z))

pub done_by : {A : Type 0} (k : ℕ) (r : Result (Unit {0}) Refusal) (u : Unit {0}) (d : A) (f : ℕ → A) → code_of r ≡ k → r ≡ Ok u → d ≡ settle k d f
done_by k r u d f p i = done k 0 d f (sym (ap code_of i) ∙ p) refl

-- rows that let a call through give 0
pub ok_code : {A : Type 0} (k : ℕ) (r : Result A Refusal) (a : A) → code_of r ≡ k → r ≡ Ok a → k ≡ 0
ok_code k r a p i = sym p ∙ ap code_of i

pub through : {A : Type 0} {x : A} (k r : ℕ) (d : A) (f : ℕ → A) → r ≡ k → r ≡ 0 → x ≡ d → x ≡ settle k d f
through k r d f e z p = p ∙ done k r d f e z

-- two judgements taken together
pub both : {a b a' b' : Bool} → a ≡ a' → b ≡ b' → (a && b) ≡ (a' && b')
both p q = cc

-- where the table gives 0, no row applied
pub record NoFault (f : Faults) : Type 0 where
  pub cone : f.cone ≡ false
  pub length : f.length ≡ false
  pub number : f.number ≡ false
  pub setting : f.setting ≡ false
  pub spent : f.spent ≡ false
  pub unscaled : f.unscaled ≡ false
  pub serial : f.serial ≡ false

-- a row of the table that gives 0 did not apply, nor did those below it
row-off : (bad : Bool) (number rest : ℕ) → 0 < number → cond bad number rest ≡ 0 → (bad ≡ false) × (rest ≡ 0)
row-off true number rest h e = absurd (omega arith)
row-off false number rest h e = (refl, e)

pub no_fault : (f : Faults) → first_row f ≡ 0 → NoFault f
unfolding first_row
no_fault f e₁ =
    let below₁ = row-off f.cone 1 _ (omega arith) e₁ in
    let below₂ = row-off f.length 2 _ (omega arith) below₁.1 in
    let below₃ = row-off f.number 3 _ (omega arith) below₂.1 in
    let below₄ = row-off f.setting 4 _ (omega arith) below₃.1 in
    let below₁₁ = row-off f.spent 11 _ (omega arith) below₄.1 in
    let below₅ = row-off f.unscaled 5 _ (omega arith) below₁₁.1 in
    let below₁₀ = row-off f.serial 10 0 (omega arith) below₅.1 in
    record {
      cone = below₁.0;
      length = below₂.0;
      number = below₃.0;
      setting = below₄.0;
      spent = below₁₁.0;
      unscaled = below₅.0;
      serial = below₁₀.0;
    }

-- the same of a call on a trace
pub trace_row-off : (broken full : Bool) → trace_row broken full ≡ 0 → (broken ≡ false) × (full ≡ false)
unfolding trace_row
trace_row-off broken full e =
    let below = row-off broken 9 _ (omega arith) e in
    (below.0, (row-off full 8 0 (omega arith) below.1).0)
