-- A contract equates what a call answers and leaves with the definition that it cites: each case is that equation, as one of outcomes.
-- Assumes nothing.
use mathlib.Core.Path.{ap, sym, ◌∙◌}
use Prim.Native.Nat.{ℕ}
use Rattle.cone.specs.declared.verdict.Verdict.{Verdict}
use Rattle.cone.specs.declared.YesNo.{YesNo}
use Rattle.cone.specs.declared.Number.{Number}
use Rattle.cone.specs.declared.Rounds.{Rounds}
use Rattle.cone.specs.declared.Found.{Found}
use Rattle.cone.specs.declared.Steps.{Steps}
use Rattle.cone.specs.declared.DualGrad.{DualGrad}
use Rattle.cone.specs.declared.Updated.{Updated}
use Rattle.judges.specs.Refusals.{Lent, LentTwo}
use Rattle.trace.specs.declared.entries.Opened.{Opened}
use Rattle.trace.specs.declared.value.Recorded.{Recorded}
use Rattle.trace.specs.entries.Writing as writing
use Rattle.trace_replay.specs.call.Replay as replays
use Rattle.trace_rescue.specs.call.Rescue as rescues
use Rattle.trace_thin.specs.call.Thin as thins
use Rattle.trace_sheet.specs.rows.Rows as rows
use Rattle.trace_sheet.specs.text.Printed as text
use Rattle.promises.specs.rules.Entries.{call, verdict, number, dual_grad, written, written_two, rectified, counted, found, found_two}
use Rattle.promises.specs.rules.Entries.{updated}
use Rattle.promises.specs.demand_one.Calls.{made}
use Rattle.promises.specs.demand_one.Calls.{answered, common, both, wrote, opened, recorded, replayed, rescued, thinned, summed}
use Rattle.promises.specs.demand_one.Calls.{printed}
use Rattle.promises.specs.allowed.Allowed as allowed
use Rattle.promises.specs.allowed.Defined.{AsDefined, AllAgree}

pub as_defined : AsDefined
unfolding made call
as_defined _ _ (allowed.spindle_fresh _ _ _ _ p) = ap (λ (l : Updated). answered (updated l)) p
as_defined _ _ (allowed.spindle_is_primal_feasible _ _ _ _ _ p) = ap (λ (l : Verdict). answered (verdict l)) p.0
as_defined _ _ (allowed.spindle_is_dual_feasible _ _ _ _ _ p) = ap (λ (l : Verdict). answered (verdict l)) p.0
as_defined _ _ (allowed.spindle_barrier_dual _ _ _ _ _ p) = ap (λ (l : Number). answered (number l)) p
as_defined _ _ (allowed.spindle_dual_grad_h _ _ _ _ _ p) = ap (λ (l : DualGrad). answered (dual_grad l)) p
as_defined _ _ (allowed.spindle_unit_initialization _ _ _ _ _ _ p) = ap (λ (l : LentTwo ℕ). answered (written_two l)) p
as_defined _ _ (allowed.spindle_rectify_equilibration _ _ _ _ _ _ p) = ap (λ (l : Lent YesNo). answered (rectified l)) p
as_defined _ _ (allowed.spindle_affine_ds _ _ _ _ _ _ p) = ap (λ (l : Lent ℕ). answered (written l)) p
as_defined _ _ (allowed.spindle_ds_from_dz_offset _ _ _ _ _ _ _ p) = ap (λ (l : Lent ℕ). answered (written l)) p
as_defined _ _ (allowed.spindle_backtrack_search _ _ _ _ _ _ _ _ _ p) = ap (λ (l : Lent Found). answered (found l)) p
as_defined _ _ (allowed.spindle_step_length _ _ _ _ _ _ _ _ _ _ _ p) = ap (λ (l : LentTwo Steps). answered (found_two l)) p
as_defined _ _ (allowed.spindle_update_scaling _ _ _ _ _ _ _ _ p) = ap (λ (l : Updated). answered (updated l)) p
as_defined _ _ (allowed.spindle_gradient_primal _ _ _ _ _ _ p) = ap (λ (l : Lent Rounds). answered (counted l)) p
as_defined _ _ (allowed.spindle_barrier_primal _ _ _ _ _ p) = ap (λ (l : Number). answered (number l)) p
as_defined _ _ (allowed.spindle_compute_barrier _ _ _ _ _ _ _ _ _ p) = ap (λ (l : Number). answered (number l)) p
as_defined _ _ (allowed.spindle_get_hs _ _ _ _ _ _ p) = ap (λ (l : Lent ℕ). answered (written l)) p
as_defined _ _ (allowed.spindle_mul_hs _ _ _ _ _ _ _ p) = ap (λ (l : Lent ℕ). answered (written l)) p
as_defined _ _ (allowed.spindle_higher_correction _ _ _ _ _ _ _ _ p) = ap (λ (l : Lent ℕ). answered (written l)) p
as_defined _ _ (allowed.spindle_combined_ds_shift _ _ _ _ _ _ _ _ _ p) = ap (λ (l : Lent ℕ). answered (written l)) p
as_defined _ _ (allowed.spindle_common_step _ _ _ _ _ _ _ _ _ p) = ap (λ (l : Lent Found). common l) p
as_defined _ _ (allowed.spindle_plan_step _ _ _ _ _ _ _ _ _ _ _ p) = ap (λ (l : LentTwo Found). both l) p
as_defined _ _ (allowed.spindle_trace_create _ _ _ _ p) = ap (λ (l : writing.Left). wrote l) p
as_defined _ _ (allowed.spindle_trace_append _ _ _ _ _ _ _ _ _ _ _ _ _ p) = ap (λ (l : writing.Left). wrote l) p.0
as_defined _ _ (allowed.spindle_trace_open _ _ _ _ p) = ap (λ (l : Opened). opened l) p
as_defined _ _ (allowed.spindle_trace_record _ _ _ _ _ p) = ap (λ (l : Recorded). recorded l) p
as_defined _ _ (allowed.spindle_record_put _ _ _ _ _ _ _ _ _ _ _ _ _ _ p) = ap (λ (l : writing.Left). wrote l) p.0
as_defined _ _ (allowed.spindle_record_at _ _ _ _ _ _ p) = ap (λ (l : Recorded). recorded l) p
as_defined _ _ (allowed.spindle_trace_seal _ _ _ _ _ _ p) = ap (λ (l : writing.Left). wrote l) p
as_defined _ _ (allowed.spindle_replay _ _ _ _ _ p) = ap (λ (l : replays.Noted). replayed l) p
as_defined _ _ (allowed.spindle_rescue _ _ _ _ _ _ p) = ap (λ (l : rescues.Saved). rescued l) p.0
as_defined _ _ (allowed.spindle_thin _ _ _ _ _ p) = ap (λ (l : thins.Left). thinned l) p.0
as_defined _ _ (allowed.spindle_thin_in_place _ _ _ _ p) = ap (λ (l : thins.Left). thinned l) p.0
as_defined _ _ (allowed.spindle_sheet_add _ _ _ _ _ _ _ _ p) = ap (λ (l : rows.Held). summed l) p
as_defined _ _ (allowed.spindle_sheet_join _ _ _ _ _ _ _ _ _ _ _ p) = ap (λ (l : rows.Held). summed l) p
as_defined _ _ (allowed.spindle_sheet_text _ _ _ _ _ _ _ _ p) = ap (λ (l : text.Told). printed l) p
as_defined _ _ (allowed.spindle_lent_update_scaling _ _ _ _ p) = ap (λ (l : Updated). answered (updated l)) p
as_defined _ _ (allowed.spindle_lent_gradient_primal _ _ _ _ p) = ap (λ (l : Lent Rounds). answered (counted l)) p
as_defined _ _ (allowed.spindle_lent_barrier_primal _ _ _ _ p) = ap (λ (l : Number). answered (number l)) p
as_defined _ _ (allowed.spindle_lent_compute_barrier _ _ _ _ p) = ap (λ (l : Number). answered (number l)) p
as_defined _ _ (allowed.spindle_lent_get_hs _ _ _ _ p) = ap (λ (l : Lent ℕ). answered (written l)) p
as_defined _ _ (allowed.spindle_lent_mul_hs _ _ _ _ p) = ap (λ (l : Lent ℕ). answered (written l)) p
as_defined _ _ (allowed.spindle_lent_higher_correction _ _ _ _ p) = ap (λ (l : Lent ℕ). answered (written l)) p
as_defined _ _ (allowed.spindle_lent_combined_ds_shift _ _ _ _ p) = ap (λ (l : Lent ℕ). answered (written l)) p

pub all_agree : AllAgree
all_agree a o p h k = as_defined a o h ∙ sym (as_defined a p k)
