-- `new_record` asks the cone of the kind, and then what is made of its points. Assumes nothing.
use mathlib.Core.Path.{◌≡◌, ◌∙◌, sym, refl}
use mathlib.Core.Bool.{true, false}
use mathlib.Core.List.{List}
use Prim.Native.Nat.{ℕ}
use lib.Ieee.{Float}
use Rattle.std.specs.Prelude.{Option, option_map}
use Rattle.cone.specs.declared.Cone.{Cone}
use Rattle.cone.specs.declared.Three.{Three}
use Rattle.cone.specs.declared.Wide.{Wide}
use Rattle.cone.specs.Codes.{is_wide}
use Rattle.cone.specs.Fresh.{no_three, no_wide, attempt_of}
use Rattle.cone.specs.Points.{three_of}
use Rattle.cone.proofs.AskedKind.{wide_kind}
use Rattle.scaling.specs.Updates.{new_three, new_wide, new_record_of}
use Rattle.scaling.proofs.update.new_record.Goals as goal

wide_made
    : (c : Cone) (s z : List Float) (μ : Float) (k : ℕ) (made : Option Wide) → is_wide c.kind ≡ true
    → option_map (λ (wide : Wide). attempt_of c no_three wide) made ≡ new_wide c z μ
    → new_record_of c s z μ k ≡ option_map (λ (wide : Wide). attempt_of c no_three wide) made
unfolding new_record_of
wide_made c s z μ k made is e = simp is (sym e)

three_made
    : (c : Cone) (s z : List Float) (μ : Float) (k : ℕ) {s3 z3 : List Float} (made : Option Three) → is_wide c.kind ≡ false → s3 ≡ three_of s
    → z3 ≡ three_of z → option_map (λ (three : Three). attempt_of c three no_wide) made ≡ new_three c s3 z3 μ k
    → new_record_of c s z μ k ≡ option_map (λ (three : Three). attempt_of c three no_wide) made
unfolding new_record_of
three_made c s z μ k made is a b e = simp is (simp (← a, ← b) (sym e))

pub new_wide-requires : goal.new_wide-requires
new_wide-requires c =
    let call = c.requires in
    let kind_3 = wide_kind c.is_wide.ensures c.if-is_wide.true in
    ((call.dims kind_3).0, (call.dims kind_3).1, call.sized kind_3)

pub returns-in_err-wide : goal.returns-in_err-wide
returns-in_err-wide c =
    rw c.from_residual.ensures
    (wide_made _ _ _ _ _ _ (sym c.is_wide.ensures ∙ c.if-is_wide.true) c.new_wide.ensures ∙ rw c.in_err-wide.was, refl)

pub returns-then-is_wide : goal.returns-then-is_wide
returns-then-is_wide c =
    wide_made _ _ _ _ _ _ (sym c.is_wide.ensures ∙ c.if-is_wide.true) c.new_wide.ensures
    ∙ rw (c.in_ok-wide.was, c.put.ensures, c.no_three.ensures)

pub returns-in_err-three : goal.returns-in_err-three
returns-in_err-three c =
    let kind = sym c.is_wide.ensures ∙ c.if-is_wide.false in
    rw c.from_residual-in_err-three.ensures
    (three_made _ _ _ _ _ _ kind c.three_of.ensures c.three_of-2.ensures c.new_three.ensures ∙ rw c.in_err-three.was, refl)

pub returns : goal.returns
returns c =
    three_made _ _ _ _ _ _ (sym c.is_wide.ensures ∙ c.if-is_wide.false) c.three_of.ensures c.three_of-2.ensures c.new_three.ensures
    ∙ rw (c.in_ok-three.was, c.put-2.ensures, c.no_wide.ensures)
