-- The primal entries use the record's cone alone: of the rest, their definitions have only whether its numbers are finite. And none gives
-- 5: their rows do not, and behind them stand 0, 6 and 7. Assumes nothing.
use mathlib.Core.Path.{◌≡◌, refl, sym, ◌∙◌}
use mathlib.Core.Bool.{Bool, true, false, cond}
use mathlib.Core.List.{List}
use Prim.Native.Nat.{ℕ, zero, suc}
use native.Mathlib.Omega.{arith}
use lib.Dec.{eqb}
use lib.Ieee.{Float}
use lib.Ieee.Scale.{finite}
use lib.ListN.{length, take}
use Rattle.std.specs.Prelude.{Option, Some, None}
use denote.Triple.Clauses.{AtExit}
use contract.Lifetimes.{Lfts}
use borrow.Fn.Kinds.{Dens, res_t, ended_of}
use Rattle.cone.specs.declared.Number.{Number}
use Rattle.cone.specs.declared.Rounds.{Rounds}
use Rattle.judges.specs.Judges.{all_finite}
use Rattle.cone.specs.table.Table.{first_row, settle}
use Rattle.judges.specs.Refusals.{Lent, publish_of, number_of, judged_of, counted_of, with_rounds}
use Rattle.judges.specs.Refusals.{refuse, refuse_number, refuse_rounds}
use Rattle.judges.proofs.Outcomes.{one}
use Rattle.cone.specs.Points.{three_of}
use Rattle.kinds.specs.declared.three.ThreeGradient.{ThreeGradient}
use Rattle.kinds.specs.Cones.{alpha_of}
use Rattle.kinds.specs.Three as three
use Rattle.kinds.specs.Wide as wide
use Rattle.call_record.specs.Rows.{record_rows}
use Rattle.call_record.specs.three.Entries.{published}
use Rattle.call_record.specs.entries.Rows.{gradient_rows, barrier_rows, compute_rows}
use Rattle.call_record.specs.entries.Entries.{gradient_primal_of, primal_barrier_of, barrier_primal_of, combined_barrier_of, compute_barrier_of}
use Rattle.call_record.specs.entries.Primal.{Alike, GradientByCone, BarrierByCone, ComputeByCone}
use Rattle.call_record.specs.entries.Primal.{GradientNeverFive, BarrierNeverFive, ComputeNeverFive}
use Rattle.call_record.proofs.entries.gradient_primal.Kinds as gradient_kinds
use Rattle.call_record.proofs.entries.gradient_primal.Reads as gradient
use Rattle.call_record.proofs.entries.barrier_primal.Kinds as barrier_kinds
use Rattle.call_record.proofs.entries.barrier_primal.Reads as barrier
use Rattle.call_record.proofs.entries.compute_barrier.Kinds as compute_kinds
use Rattle.call_record.proofs.entries.compute_barrier.Reads as compute

-- ---- by the cone alone: the definitions

pub gradient_by-cone : GradientByCone
unfolding gradient_primal_of gradient_rows
gradient_by-cone r r' h g s = simp (h.cone, h.finite, h.finite')

pub barrier_by_cone : BarrierByCone
unfolding barrier_primal_of primal_barrier_of barrier_rows
barrier_by_cone r r' h s = simp (h.cone, h.finite, h.finite')

pub compute_by_cone : ComputeByCone
unfolding compute_barrier_of combined_barrier_of compute_rows
compute_by_cone r r' h z s dz ds step = simp (h.cone, h.finite, h.finite')

-- ---- the functions: any two outcomes of two calls that differ in the record alone. `Post` is the claim of `ensures`

module _ (κs : Lfts 2) (a b : Dens κs gradient_kinds.ps) where
  -- the arguments: record, lent gradient, point
  pub gradient-primal-by-cone
      : (x y : (res_t gradient_kinds.r κs).Denot) (u v : AtExit (ended_of 2 gradient_kinds.ps gradient_kinds.r) κs)
      → Alike a.0 b.0 → a.1.0.now ≡ b.1.0.now → a.1.1.0.now ≡ b.1.1.0.now
      → gradient.Post κs a x u → gradient.Post κs b y v
      → (x ≡ y) × (u.1.0.now ≡ v.1.0.now)
  gradient-primal-by-cone x y u v h g s p q =
      one {A = Rounds} (p ∙ gradient_by-cone a.0 b.0 h _ _ ∙ rw (g, s) (sym q))

module _ (κs : Lfts 1) (a b : Dens κs barrier_kinds.ps) where
  -- the arguments: record, point
  pub barrier-primal-by-cone
      : (x y : (res_t barrier_kinds.r κs).Denot) (u v : AtExit (ended_of 1 barrier_kinds.ps barrier_kinds.r) κs)
      → Alike a.0 b.0 → a.1.0.now ≡ b.1.0.now
      → barrier.Post κs a x u → barrier.Post κs b y v
      → x ≡ y
  barrier-primal-by-cone x y u v h s p q = p ∙ barrier_by_cone a.0 b.0 h _ ∙ rw s (sym q)

module _ (κs : Lfts 4) (a b : Dens κs compute_kinds.ps) where
  -- the arguments: record, z, s, dz, ds, step
  pub compute-barrier-by-cone
      : (x y : (res_t compute_kinds.r κs).Denot) (u v : AtExit (ended_of 4 compute_kinds.ps compute_kinds.r) κs)
      → Alike a.0 b.0 → a.1.0.now ≡ b.1.0.now → a.1.1.0.now ≡ b.1.1.0.now
      → a.1.1.1.0.now ≡ b.1.1.1.0.now → a.1.1.1.1.0.now ≡ b.1.1.1.1.0.now
      → a.1.1.1.1.1.0 ≡ b.1.1.1.1.1.0
      → compute.Post κs a x u → compute.Post κs b y v
      → x ≡ y
  compute-barrier-by-cone x y u v h z s dz ds step p q =
      p ∙ compute_by_cone a.0 b.0 h _ _ _ _ _ ∙ rw (z, s, dz, ds, step) (sym q)

-- ---- never 5

abbrev NotFive : ℕ → Type 0
NotFive k = k ≡ 5 → ⊥

not_0 : NotFive 0
not_0 e = omega arith

not_6 : NotFive 6
not_6 e = omega arith

not_7 : NotFive 7
not_7 e = omega arith

-- rows that look at no scaling and no serial
row_not_five : (cone length number : Bool) → NotFive (record_rows cone length number false false)
unfolding first_row
row_not_five true length number e = omega arith
row_not_five false true number e = omega arith
row_not_five false false true e = omega arith
row_not_five false false false e = omega arith

module _ {A : Type 0} (number : A → ℕ) where
  settled-not-five
      : (d : A) (refuse : ℕ → A) → ((k : ℕ) → number (refuse k) ≡ k)
      → (k : ℕ) → NotFive k → NotFive (number d) → NotFive (number (settle k d refuse))
  unfolding settle
  settled-not-five d refuse carries zero f g e = g e
  settled-not-five d refuse carries (suc k) f g e = f (sym (carries (suc k)) ∙ e)

  either_not_five : (b : Bool) (x y : A) → NotFive (number x) → NotFive (number y) → NotFive (number (cond b x y))
  either_not_five true x y f g e = f e
  either_not_five false x y f g e = g e

-- 0 or 7, with a count
published_not_five : (old ans : List Float) (n : ℕ) → NotFive (counted_of (publish_of old ans).answer n).code
unfolding publish_of counted_of
published_not_five old ans n =
    either_not_five (λ (l : Lent ℕ). (counted_of l.answer n).code) (all_finite ans) (record { answer = 0; slice = ans }) (refuse old 7)
    not_0
    not_7

-- 6 too
three_not_five : (old : List Float) (a : Option ThreeGradient) → NotFive (published old a).answer.code
three_not_five old None = not_6
three_not_five old (Some a) = published_not_five old a.g a.rounds

number_not_five : (value : Float) → NotFive (number_of value).code
unfolding number_of
number_not_five value =
    either_not_five (λ (n : Number). n.code) (finite value) (record { code = 0; value = value }) (refuse_number 7) not_0 not_7

judged_not_five : (value : Option Float) → NotFive (judged_of value).code
unfolding judged_of
judged_not_five None = not_6
judged_not_five (Some value) = number_not_five value

pub gradient_never_five : GradientNeverFive
unfolding gradient_primal_of gradient_rows
gradient_never_five r g s =
    let number : Lent Rounds → ℕ = λ l. l.answer.code in
    let c = r.cone in
    let w = wide.gradient_primal_of c.exps c.dim1 s in
    let of_wide = with_rounds w.rounds (publish_of g (take (length g) w.g)) in
    let t = three.gradient_primal_of c.kind (alpha_of c) (three_of s) in
    settled-not-five number (cond (eqb c.kind 3) of_wide (published g t)) (refuse_rounds g) (λ k. refl) _
    (row_not_five _ _ _)
    (either_not_five number (eqb c.kind 3) of_wide (published g t)
    (published_not_five g (take (length g) w.g) w.rounds)
    (three_not_five g t))

pub barrier_never_five : BarrierNeverFive
unfolding barrier_primal_of barrier_rows
barrier_never_five r s =
    settled-not-five (λ (n : Number). n.code) _ refuse_number (λ k. refl) _ (row_not_five _ _ _) (judged_not_five _)

pub compute_never_five : ComputeNeverFive
unfolding compute_barrier_of compute_rows
compute_never_five r z s dz ds step =
    settled-not-five (λ (n : Number). n.code) _ refuse_number (λ k. refl) _ (row_not_five _ _ _) (judged_not_five _)
