-- An update's answer is settled twice, by the rows before the formulas and by the two after them; where both give 0 the old record has
-- gone but for its cone and the serial that the new one follows. Assumes nothing.
use mathlib.Core.Path.{◌≡◌, refl, sym, ◌∙◌, ap, subst}
use mathlib.Core.Bool.{Bool, true, false, cond}
use mathlib.Core.List.{List}
use Prim.Native.Nat.{ℕ, zero, suc, ◌+◌}
use native.Mathlib.Omega.{arith}
use lib.Dec.{eqb}
use lib.Ieee.{Float}
use lib.ListN.{length, take, length-take}
use borrow.Author.Tests.{eq-eqb, ne_eqb}
use Rattle.std.specs.Prelude.{Option, Some, None, option_map}
use Rattle.std.proofs.lemmas.Option.{none-some, same_Some}
use Rattle.cone.specs.declared.Cone.{Cone}
use Rattle.cone.specs.declared.Scaling.{Scaling}
use Rattle.cone.specs.declared.Updated.{Updated}
use Rattle.cone.specs.declared.Wide.{Wide}
use Rattle.cone.specs.Fresh.{no_three, no_wide, attempt_of}
use Rattle.cone.specs.Codes.{numel_of}
use Rattle.cone.specs.Points.{three_of, padded}
use Rattle.cone.specs.table.Table.{settle}
use Rattle.judges.specs.Refusals.{last_rows, settle_record, refuse_update}
use Rattle.cone.proofs.Points.{three_of-three, padded_front, padded_behind}
use Rattle.judges.proofs.Lengths.{numel_3d}
use Rattle.genpowcone.specs.DualGradient as genDual
use Rattle.genpowcone.proofs.Held.{unused-zero}
use Rattle.cone.specs.Calls.{WideCall}
use Rattle.kinds.specs.Cones.{alpha_of, alphas_of}
use Rattle.kinds.specs.Three.{update_dual_grad_h_of}
use Rattle.scaling.specs.Updates.{three_at, new_three, wide_at, new_wide, new_record_of}
use Rattle.call_record.specs.update.Entries.{update_rows, numbered, completed, update_scaling_of}
use Rattle.call_record.specs.update.Updates.{SameAnswer, RefusedKeeps, Unused, Made, CompletedMakes}
use Rattle.call_record.proofs.update.LetThrough.{update_call, point-length}

-- ---- an answer settled twice, over any rows

abbrev once : ℕ → Scaling → Scaling → Updated
once k new r = settle k (completed (r.serial + 1) new) (refuse_update r)

done_once : (k : ℕ) (new r : Scaling) → (once k new r).code ≡ 0 → k ≡ 0
unfolding settle
done_once zero new r e = refl
done_once (suc k) new r e = absurd (omega arith)

once_done : (k : ℕ) (new r : Scaling) → k ≡ 0 → once k new r ≡ completed (r.serial + 1) new
unfolding settle
once_done zero new r e = refl
once_done (suc k) new r e = absurd (omega arith)

once_kept : (k : ℕ) (new r : Scaling) → ((once k new r).code ≡ 0 → ⊥) → (once k new r).scaling ≡ r
unfolding settle
once_kept zero new r n = absurd (n refl)
once_kept (suc k) new r n = refl

abbrev twice : ℕ → Option Scaling → Scaling → Updated
twice j made r = settle j (settle_record made (completed (r.serial + 1)) (refuse_update r)) (refuse_update r)

done_twice : (j : ℕ) (made : Option Scaling) (r : Scaling) → (twice j made r).code ≡ 0 → (j ≡ 0) × (last_rows made ≡ 0)
unfolding settle settle_record last_rows
done_twice zero None r e = absurd (omega arith)
done_twice zero (Some new) r e = (refl, done_once (last_rows (Some new)) new r e)
done_twice (suc j) made r e = absurd (omega arith)

is-completed : (j : ℕ) (made : Option Scaling) (r : Scaling) → j ≡ 0 → last_rows made ≡ 0
    → (new : Scaling) × (made ≡ Some new) × (twice j made r ≡ completed (r.serial + 1) new)
unfolding settle settle_record last_rows
is-completed zero None r e f = absurd (omega (arith, f))
is-completed zero (Some new) r e f = (new, refl, once_done (last_rows (Some new)) new r f)
is-completed (suc j) made r e f = absurd (omega (arith, e))

is_kept : (j : ℕ) (made : Option Scaling) (r : Scaling) → ((twice j made r).code ≡ 0 → ⊥) → (twice j made r).scaling ≡ r
unfolding settle settle_record last_rows
is_kept zero None r n = refl
is_kept zero (Some new) r n = once_kept (last_rows (Some new)) new r n
is_kept (suc j) made r n = refl

-- ---- of an update

module _ (s z : List Float) (μ : Float) (k : ℕ) where
  abbrev new : Scaling → Option Scaling
  new r = new_record_of r.cone s z μ k

  was_done : (r : Scaling) → (update_scaling_of r s z μ k).code ≡ 0 → (update_rows r s z μ k ≡ 0) × (last_rows (new r) ≡ 0)
  unfolding update_scaling_of
  was_done r e = done_twice (update_rows r s z μ k) (new r) r e

  answers-new
      : (r : Scaling)
      → update_rows r s z μ k ≡ 0
      → last_rows (new r) ≡ 0
      → (v : Scaling) × (new r ≡ Some v) × (update_scaling_of r s z μ k ≡ completed (r.serial + 1) v)
  unfolding update_scaling_of
  answers-new r e f = is-completed (update_rows r s z μ k) (new r) r e f

pub same_answer : SameAnswer
same_answer r r' s z μ k c n d e =
    let w = was_done s z μ k r d in
    let same : new s z μ k r ≡ new s z μ k r' = ap (λ (x : Cone). new_record_of x s z μ k) c in
    let a = answers-new s z μ k r w.0 w.1 in
    let b = answers-new s z μ k r' e (sym (ap last_rows same) ∙ w.1) in
    a.2
    ∙ ap (completed (r.serial + 1)) (same_Some a.0 b.0 (sym a.1 ∙ same ∙ b.1))
    ∙ ap (λ (serial : ℕ). completed (serial + 1) b.0) n
    ∙ sym b.2

pub refused_keeps : RefusedKeeps
unfolding update_scaling_of
refused_keeps r s z μ k n = is_kept (update_rows r s z μ k) (new s z μ k r) r n

-- ---- the new record, by kind

mapped : {A B : Type 0} (f : A → B) (o : Option A) (y : B) → option_map f o ≡ Some y → (x : A) × (o ≡ Some x) × (f x ≡ y)
mapped f None y e = absurd (none-some y e)
mapped f (Some x) y e = (x, refl, same_Some (f x) y e)

one_of : {P : Type 0} (b : Bool) (x y : Option Scaling) (v : Scaling) → cond b x y ≡ Some v → (x ≡ Some v → P) → (y ≡ Some v → P) → P
one_of true x y v e f g = f e
one_of false x y v e f g = g e

module _ (r : Scaling) (s z : List Float) (μ : Float) (k : ℕ) where
  of_wide : r.cone.kind ≡ 3 → new s z μ k r ≡ new_wide r.cone z μ
  unfolding new_record_of
  of_wide e = simp (eq-eqb _ _ e)

  of_three : (r.cone.kind ≡ 3 → ⊥) → new s z μ k r ≡ new_three r.cone (three_of s) (three_of z) μ k
  unfolding new_record_of
  of_three e = simp (ne_eqb _ _ e)

  wide-made : (v : Scaling) → new_wide r.cone z μ ≡ Some v
      → (w : Wide) × (genDual.update_dual_grad_h_of (alphas_of r.cone) z ≡ Some w)
      × (attempt_of r.cone no_three (wide_at w (padded 64 z) μ) ≡ v)
  unfolding new_wide
  wide-made v e = mapped _ _ v e

  three-made : (v : Scaling) → new_three r.cone (three_of s) (three_of z) μ k ≡ Some v
      → (hs : List Float)
      × (attempt_of r.cone (three_at (update_dual_grad_h_of r.cone.kind (alpha_of r.cone) (three_of z)) (three_of z) hs) no_wide ≡ v)
  unfolding new_three
  three-made v e = let m = mapped _ _ v e in (m.0, m.2)

  new-cone : (v : Scaling) → new s z μ k r ≡ Some v → v.cone ≡ r.cone
  unfolding new_record_of
  new-cone v e =
      one_of (eqb r.cone.kind 3) _ _ v e (λ w. sym (ap (λ (x : Scaling). x.cone) (wide-made v w).2))
      (λ t. sym (ap (λ (x : Scaling). x.cone) (three-made v t).1))

  new-scaled : (v : Scaling) → new s z μ k r ≡ Some v → v.scaled ≡ 1
  unfolding new_record_of
  new-scaled v e =
      one_of (eqb r.cone.kind 3) _ _ v e (λ w. sym (ap (λ (x : Scaling). x.scaled) (wide-made v w).2))
      (λ t. sym (ap (λ (x : Scaling). x.scaled) (three-made v t).1))

  -- all of its numbers stand in front
  wide_kept : WideCall r.cone z → r.cone.kind ≡ 3 → take (r.cone.dim1 + r.cone.dim2) (padded 64 z) ≡ z
  wide_kept w e = padded_front 64 z _ (w.sized e)

  -- the exponents in use are at most dim1, and the point has dim1 + dim2 numbers
  wide_unused : WideCall r.cone z → r.cone.kind ≡ 3 → (v : Wide) → genDual.update_dual_grad_h_of (alphas_of r.cone) z ≡ Some v
      → Unused r.cone (wide_at v (padded 64 z) μ)
  wide_unused w e v is =
      let n = length-take r.cone.dim1 r.cone.exps in
      let d = (w.dims e).0 in
      let m = w.sized e in
      let u = unused-zero (alphas_of r.cone) z (omega (arith, n, m)) v is in
      record {
        z_behind = λ i h b. padded_behind 64 z i (omega (arith, m)) b;
        grad_behind = λ i h b. u.grad_unused i (omega (arith, m)) b;
        p_behind = λ i h b. u.p_unused i (omega (arith, m)) b;
        q_behind = λ i h b. u.q-unused i (omega (arith, n)) b;
        r_behind = λ l i h b. u.r-unused i (omega (arith, n, m, d, l)) b;
        d1_behind = λ i h b. u.d1_unused i (omega (arith, n)) b;
      }

  module _ (v : Scaling) (is : new s z μ k r ≡ Some v) where
    as_wide : (e : r.cone.kind ≡ 3) → (w : Wide) × (genDual.update_dual_grad_h_of (alphas_of r.cone) z ≡ Some w)
        × (attempt_of r.cone no_three (wide_at w (padded 64 z) μ) ≡ v)
    as_wide e = wide-made v (sym (of_wide e) ∙ is)

    as_three : (r.cone.kind ≡ 3 → ⊥) → (hs : List Float)
        × (attempt_of r.cone (three_at (update_dual_grad_h_of r.cone.kind (alpha_of r.cone) (three_of z)) (three_of z) hs) no_wide ≡ v)
    as_three e = three-made v (sym (of_three e) ∙ is)

    made : WideCall r.cone z → length z ≡ numel_of r.cone → Made r (numbered (r.serial + 1) v) z μ
    made w l = record {
      keeps_cone = new-cone v is;
      was_scaled = new-scaled v is;
      one_more = refl;
      three_z = λ e. sym (ap (λ (x : Scaling). x.three.z) (as_three e).1) ∙ three_of-three z (l ∙ numel_3d r.cone e);
      wide_z = λ e.
          sym (ap (λ (x : Scaling). take (r.cone.dim1 + r.cone.dim2) x.wide.z) (as_wide e).2) ∙ wide_kept w e;
      no_wide = λ e. sym (ap (λ (x : Scaling). x.wide) (as_three e).1);
      no_three = λ e. sym (ap (λ (x : Scaling). x.three) (as_wide e).2);
      wide_mu = λ e. sym (ap (λ (x : Scaling). x.wide.mu) (as_wide e).2);
      unused = λ e.
          subst (λ (x : Scaling). Unused r.cone x.wide) (as_wide e).2 (wide_unused w e (as_wide e).0 (as_wide e).1);
    }

pub completed_makes : CompletedMakes
completed_makes r s z μ k e =
    let w = was_done s z μ k r e in
    let a = answers-new s z μ k r w.0 w.1 in
    subst (λ (u : Updated). Made r u.scaling z μ) (sym a.2)
    (made r s z μ k a.0 a.1 (update_call r s z μ k w.0) (point-length r s z μ k w.0))
