-- The entries that take a cone or a record, as one type: a theorem about all of them is stated once. Definitions only.
use Rattle.std.specs.Prelude.{ℕ, Bool, List, Float}
use Rattle.cone.specs.declared.verdict.Verdict.{Verdict}
use Rattle.cone.specs.declared.Cone.{Cone}
use Rattle.cone.specs.declared.Settings.{Settings}
use Rattle.cone.specs.declared.Scaling.{Scaling}
use Rattle.cone.specs.declared.YesNo.{YesNo}
use Rattle.cone.specs.declared.Number.{Number}
use Rattle.cone.specs.declared.Rounds.{Rounds}
use Rattle.cone.specs.declared.Found.{Found}
use Rattle.cone.specs.declared.Steps.{Steps}
use Rattle.cone.specs.declared.DualGrad.{DualGrad}
use Rattle.cone.specs.declared.Updated.{Updated}
use Rattle.judges.specs.Refusals.{Lent, LentTwo}
use Rattle.call_cone.specs.formulas.Entries as cones
use Rattle.call_search.specs.single.Entries as searches
use Rattle.call_record.specs.update.Entries as updates
use Rattle.call_record.specs.entries.Entries as records

-- ---- an entry with all its arguments but the cone. Of a record that is passed, the cone is the one that a call names

pub data Entry : Type 0 where
  fresh : Entry
  is_primal_feasible : List Float → Entry
  is_dual_feasible : List Float → Entry
  barrier_dual : List Float → Entry
  dual_grad_h : List Float → Entry
  unit_initialization : List Float → List Float → Entry
  rectify_equilibration : List Float → List Float → Entry
  affine_ds : List Float → List Float → Entry
  ds_from_dz_offset : List Float → List Float → List Float → Entry
  backtrack_search : Bool → List Float → List Float → List Float → Settings → Entry
  step_length : List Float → List Float → List Float → List Float → List Float → List Float → Settings → Entry
  update_scaling : Scaling → List Float → List Float → Float → ℕ → Entry
  gradient_primal : Scaling → List Float → List Float → Entry
  barrier_primal : Scaling → List Float → Entry
  compute_barrier : Scaling → List Float → List Float → List Float → List Float → Float → Entry
  get_hs : Scaling → ℕ → List Float → Entry
  mul_hs : Scaling → ℕ → List Float → List Float → Entry
  higher_correction : Scaling → ℕ → List Float → List Float → List Float → Entry
  combined_ds_shift : Scaling → ℕ → List Float → List Float → List Float → Float → Entry

-- what a call answers, with the slices that it was lent
pub data Answered : Type 0 where
  verdict : Verdict → Answered
  number : Number → Answered
  dual_grad : DualGrad → Answered
  written : Lent ℕ → Answered
  written_two : LentTwo ℕ → Answered
  rectified : Lent YesNo → Answered
  counted : Lent Rounds → Answered
  found : Lent Found → Answered
  found_two : LentTwo Steps → Answered
  updated : Updated → Answered

-- the record with this cone
abbrev pub with_cone : Cone → Scaling → Scaling
with_cone c r = record { cone = c; scaled = r.scaled; serial = r.serial; three = r.three; wide = r.wide }

-- the call of an entry with a cone, by the definition that its contract cites
unfoldable pub call : Entry → Cone → Answered
call fresh c = updated (cones.fresh_of c)
call (is_primal_feasible s) c = verdict (cones.is_primal_feasible_of c s)
call (is_dual_feasible z) c = verdict (cones.is_dual_feasible_of c z)
call (barrier_dual z) c = number (cones.barrier_dual_of c z)
call (dual_grad_h z) c = dual_grad (cones.dual_grad_h_of c z)
call (unit_initialization z s) c = written_two (cones.unit_initialization_of c z s)
call (rectify_equilibration δ e) c = rectified (cones.rectify_equilibration_of c δ e)
call (affine_ds ds s) c = written (cones.affine_ds_of c ds s)
call (ds_from_dz_offset out ds z) c = written (cones.ds_from_dz_offset_of c out ds z)
call (backtrack_search primal dq q point how) c = found (searches.backtrack_search_of c primal dq q point how)
call (step_length dz ds z s dual_point primal_point how) c = found_two (searches.step_length_of c dz ds z s dual_point primal_point how)
call (update_scaling r s z μ strategy) c = updated (updates.update_scaling_of (with_cone c r) s z μ strategy)
call (gradient_primal r g s) c = counted (records.gradient_primal_of (with_cone c r) g s)
call (barrier_primal r s) c = number (records.barrier_primal_of (with_cone c r) s)
call (compute_barrier r z s dz ds step) c = number (records.compute_barrier_of (with_cone c r) z s dz ds step)
call (get_hs r serial block) c = written (records.get_hs_of (with_cone c r) serial block)
call (mul_hs r serial y x) c = written (records.mul_hs_of (with_cone c r) serial y x)
call (higher_correction r serial η ds v) c = written (records.higher_correction_of (with_cone c r) serial η ds v)
call (combined_ds_shift r serial out stepz steps σμ) c = written (records.combined_ds_shift_of (with_cone c r) serial out stepz steps σμ)

-- the number that it leaves with
unfoldable pub code_of : Answered → ℕ
code_of (verdict a) = a.code
code_of (number a) = a.code
code_of (dual_grad a) = a.code
code_of (written a) = a.answer
code_of (written_two a) = a.answer
code_of (rectified a) = a.answer.code
code_of (counted a) = a.answer.code
code_of (found a) = a.answer.code
code_of (found_two a) = a.answer.code
code_of (updated a) = a.code

-- ---- the rule

-- the cone under a rule
abbrev pub under : ℕ → Cone → Cone
under rule c = record { kind = c.kind; dim1 = c.dim1; dim2 = c.dim2; rule = rule; exps = c.exps }

abbrev pub record_under : ℕ → Scaling → Scaling
record_under rule r = with_cone (under rule r.cone) r

abbrev pub updated_under : ℕ → Updated → Updated
updated_under rule u = record { code = u.code; scaling = record_under rule u.scaling }

-- the answer with this rule, where it carries one: in a record that is handed back
unfoldable pub carrying : ℕ → Answered → Answered
carrying rule (verdict a) = verdict a
carrying rule (number a) = number a
carrying rule (dual_grad a) = dual_grad a
carrying rule (written a) = written a
carrying rule (written_two a) = written_two a
carrying rule (rectified a) = rectified a
carrying rule (counted a) = counted a
carrying rule (found a) = found a
carrying rule (found_two a) = found_two a
carrying rule (updated a) = updated (updated_under rule a)
