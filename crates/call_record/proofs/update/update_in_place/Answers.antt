-- A call that its rows refuse leaves with their number and the old record, also after the formulas; any other with the new record and the
-- serial after the old one, which is not the last. Assumes nothing.
use mathlib.Core.Path.{◌≡◌, ◌∙◌, refl, sym, ap}
use mathlib.Core.List.{List}
use Prim.Native.Nat.{ℕ}
use native.Mathlib.Omega.{arith}
use lib.Ieee.{Float}
use mathlib.Core.Bool.{true, false}
use Rattle.std.specs.Prelude.{Option, Some, None}
use Rattle.cone.specs.declared.Cone.{Cone}
use Rattle.cone.specs.declared.Scaling.{Scaling}
use Rattle.cone.specs.declared.table.Refusal.TheVariants.{WouldPanic, AnswerNotFinite}
use Rattle.judges.specs.Judges.{record_finite}
use Rattle.cone.specs.Fresh.{fresh_of}
use Rattle.scaling.specs.Updates.{new_record_of}
use Rattle.judges.specs.Refusals.{last_rows}
use Rattle.judges.proofs.Settled.{refused_record, done_record}
use Rattle.cone.proofs.table.Settled.{number_above_0, refused_by, done_by, ok_code}
use Rattle.call_record.specs.update.Entries.{completed, update_scaling_of}
use Rattle.call_record.proofs.update.LetThrough.{update_call, not_last}
use borrow.Author.Rules.{rules}
use Rattle.call_record.proofs.update.update_in_place.Goals as goal

of_cone
    : {a b : Cone} (s z : List Float) (μ : Float) (k : ℕ) → a ≡ b → new_record_of a s z μ k ≡ new_record_of b s z μ k
of_cone s z μ k e = ap (λ (c : Cone). new_record_of c s z μ k) e

own_cone : {new : Scaling} {a b : Cone} → new ≡ fresh_of a → a ≡ b → new.cone ≡ b
unfolding fresh_of
own_cone e f = ap (λ (r : Scaling). r.cone) e ∙ f

-- rows 6 and 7 of what was made
row_6 : {made : Option Scaling} → made ≡ None → 6 ≡ last_rows made
unfolding last_rows
row_6 e = rw e

row_7 : {made : Option Scaling} {new : Scaling} → made ≡ Some new → record_finite new ≡ false → 7 ≡ last_rows made
unfolding last_rows
row_7 e f = rw (e, f)

let_through : {made : Option Scaling} {new : Scaling} → made ≡ Some new → record_finite new ≡ true → 0 ≡ last_rows made
unfolding last_rows
let_through e f = rw (e, f)

pub returns-in-Err : goal.returns-in-Err
unfolding update_scaling_of
returns-in-Err c = c.refused.ensures ∙ refused_by _ _ _ _ _ _ c.update_rows.ensures c.in-Err.is refl

pub overflow_add-scaling : goal.overflow_add-scaling
overflow_add-scaling c = omega (arith, c.well_formed, not_last _ _ _ _ _ (ok_code _ _ _ c.update_rows.ensures c.in_default.is))

pub new_record-requires : goal.new_record-requires
new_record-requires c =
    rw (own_cone c.fresh-scaling.ensures c.copied.ensures)
    (update_call _ _ _ _ _ (ok_code _ _ _ c.update_rows.ensures c.in_default.is))

pub returns-in_default-new_record : goal.returns-in_default-new_record
unfolding update_scaling_of
returns-in_default-new_record c =
    let made = of_cone _ _ _ _ (own_cone c.fresh-scaling.ensures c.copied.ensures) in
    c.refused-in_default-new_record.ensures
    ∙ refused_record (completed _) _ _ _ (row_6 (sym made ∙ c.in_default-new_record.ensures.0)) (number_above_0 WouldPanic)
    ∙ done_by _ _ _ _ _ c.update_rows.ensures c.in_default.is

pub returns-then-not-lent_finite : goal.returns-then-not-lent_finite
unfolding update_scaling_of
returns-then-not-lent_finite c =
    let made = sym (of_cone _ _ _ _ (own_cone c.fresh-scaling.ensures c.copied.ensures)) ∙ c.in-Some.ensures in
    let row = row_7 made (ap record_finite (sym c.of.ensures) ∙ sym c.lent_finite.ensures ∙ c.if-not-lent_finite.true) in
    c.refused-then-not-lent_finite.ensures
    ∙ refused_record (completed _) _ _ _ row (number_above_0 AnswerNotFinite)
    ∙ done_by _ _ _ _ _ c.update_rows.ensures c.in_default.is

pub returns : goal.returns
unfolding update_scaling_of
returns c =
    let made = sym (of_cone _ _ _ _ (own_cone c.fresh-scaling.ensures c.copied.ensures)) ∙ c.in-Some.ensures in
    let row = let_through made (ap record_finite (sym c.of.ensures) ∙ sym c.lent_finite.ensures ∙ c.if-not-lent_finite.false) in
    done_record (completed _) _ _ _ _ row made refl
    ∙ done_by _ _ _ _ _ c.update_rows.ensures c.in_default.is
