-- What a contract allows is what the definition makes of which Order 6 is proved. Assumes nothing.
use Prim.Native.Nat.{ℕ}
use mathlib.Core.Path.{◌≡◌, refl, ◌∙◌, sym, ap, subst}
use mathlib.Core.List.{List}
use lib.Ieee.{Float}
use Rattle.cone.specs.declared.Cone.{Cone}
use Rattle.cone.specs.declared.Scaling.{Scaling}
use Rattle.cone.specs.declared.Updated.{Updated}
use Rattle.judges.specs.Refusals.{refuse_update}
use Rattle.call_cone.specs.formulas.Entries.{fresh_of}
use Rattle.call_search.proofs.single.Demand3.{let_through}
use Rattle.call_record.specs.update.Entries.{update_rows, update_scaling_of}
use Rattle.call_record.specs.update.Updates.{Made}
use Rattle.call_record.proofs.update.Updates.{same_answer, refused_keeps, completed_makes}
use Rattle.promises.specs.rules.Entries.{Entry, call, code_of, updated, fresh, update_scaling}
use Rattle.promises.specs.demand_one.Calls.{made, number_in, entry, answered}
use Rattle.promises.specs.allowed.Allowed.{Allowed}
use Rattle.promises.specs.serials.Calls.{Over, HadSerial, CallsSerials}
use Rattle.promises.proofs.allowed.Defined.{as_defined}
use Rattle.promises.proofs.serials.Serials.{counts, named}

fresh_made : (c : Cone) (u : Updated) → Allowed (entry fresh c) (answered (updated u)) → u ≡ fresh_of c
unfolding made call
fresh_made c u h =
    let e : answered (updated u) ≡ answered (updated (fresh_of c)) = as_defined _ _ h in
    cc

module _ (r : Scaling) (s z : List Float) (μ : Float) (strategy : ℕ) where
  abbrev update : Updated
  update = update_scaling_of r s z μ strategy

  update_made : (u : Updated) → Over r (update_scaling r s z μ strategy) (answered (updated u)) → u ≡ update
  unfolding made call
  update_made u h =
      let e : answered (updated u) ≡ answered (updated update) = as_defined _ _ h in
      cc

  let_in : update.code ≡ 0 → update_rows r s z μ strategy ≡ 0
  unfolding update_scaling_of
  let_in e = let_through (λ (u : Updated). u.code) _ (refuse_update r) (λ k. refl) _ e

of_number : (r : Scaling) (e : Entry) (serial : ℕ) → (code_of (call e r.cone) ≡ 0 → r.serial ≡ serial) → HadSerial r serial e
unfolding made number_in
of_number r e serial law o h n = law (sym (ap number_in (as_defined _ _ h)) ∙ n)

pub calls_serials : CallsSerials
unfolding call code_of
calls_serials = record {
  fresh = λ c u h. ap (λ (x : Updated). x.scaling.serial) (fresh_made c u h) ∙ counts.fresh c;
  completed = λ r s z μ strategy u h.
      subst (λ (x : Updated). x.code ≡ 0 → Made r x.scaling z μ) (sym (update_made r s z μ strategy u h))
      (completed_makes r s z μ strategy);
  refused = λ r s z μ strategy u h.
      subst (λ (x : Updated). (x.code ≡ 0 → ⊥) → x.scaling ≡ r) (sym (update_made r s z μ strategy u h))
      (refused_keeps r s z μ strategy);
  depends = λ r r' s z μ strategy u u' c n h d h' d'.
      let e = update_made r s z μ strategy u h in
      let e' = update_made r' s z μ strategy u' h' in
      let done : (update r s z μ strategy).code ≡ 0 = sym (ap (λ (x : Updated). x.code) e) ∙ d in
      let done' : (update r' s z μ strategy).code ≡ 0 = sym (ap (λ (x : Updated). x.code) e') ∙ d' in
      e ∙ same_answer r r' s z μ strategy c n done (let_in r' s z μ strategy done') ∙ sym e';
  block = λ r serial b. of_number r _ serial ((named r serial).block b);
  product = λ r serial y x. of_number r _ serial ((named r serial).product y x);
  correction = λ r serial η ds v. of_number r _ serial ((named r serial).correction η ds v);
  shift = λ r serial out stepz steps σμ. of_number r _ serial ((named r serial).shift out stepz steps σμ);
}
