-- 01: "For each, show that any two outcomes allowed by it agree": of every export. The functions behind them have theirs in the files
-- Agree of their rooms. Assumes nothing.
use mathlib.Core.Path.{◌∙◌, sym}
use mathlib.Core.List.{List}
use Prim.Native.Nat.{ℕ}
use lib.Ieee.{Float}
use Rattle.arith.specs.Outcomes.{OneAnswer, OneOutcome}
use Rattle.cone.specs.declared.YesNo.{YesNo}
use Rattle.cone.specs.declared.Found.{Found}
use Rattle.cone.specs.declared.Steps.{Steps}
use Rattle.cone.specs.declared.Rounds.{Rounds}
use Rattle.judges.proofs.Outcomes.{one, two}
use Rattle.trace.proofs.entries.Agree.{left}
use Rattle.trace_replay.proofs.call.Agree.{noted_alike}
use Rattle.trace_rescue.proofs.call.Agree.{saved_alike}
use Rattle.trace_thin.proofs.call.Agree.{left_alike}
use Rattle.trace_sheet.proofs.rows.Agree.{held_alike}
use Rattle.trace_sheet.proofs.text.Agree.{told_alike}
use Rattle.spindle.proofs.spindle_version.Reads as version
use Rattle.spindle.proofs.spindle_sqrt.Reads as sqrt
use Rattle.spindle.proofs.spindle_log.Reads as log
use Rattle.spindle.proofs.spindle_exp.Reads as exp
use Rattle.spindle.proofs.spindle_powf.Reads as powf
use Rattle.spindle.proofs.spindle_fresh.Reads as fresh
use Rattle.spindle.proofs.spindle_is_primal_feasible.Reads as is_primal_feasible
use Rattle.spindle.proofs.spindle_is_dual_feasible.Reads as is_dual_feasible
use Rattle.spindle.proofs.spindle_barrier_dual.Reads as barrier_dual
use Rattle.spindle.proofs.spindle_dual_grad_h.Reads as dual_grad_h
use Rattle.spindle.proofs.spindle_house_settings.Reads as house_settings
use Rattle.spindle.proofs.spindle_house_strategy.Reads as house_strategy
use Rattle.spindle.proofs.spindle_backtrack_search.Reads as backtrack_search
use Rattle.spindle.proofs.spindle_step_length.Reads as step_length
use Rattle.spindle.proofs.spindle_common_step.Reads as common_step
use Rattle.spindle.proofs.spindle_plan_step.Reads as plan_step
use Rattle.spindle.proofs.spindle_unit_initialization.Reads as unit_initialization
use Rattle.spindle.proofs.spindle_rectify_equilibration.Reads as rectify_equilibration
use Rattle.spindle.proofs.spindle_affine_ds.Reads as affine_ds
use Rattle.spindle.proofs.spindle_ds_from_dz_offset.Reads as ds_from_dz_offset
use Rattle.spindle.proofs.spindle_update_scaling.Reads as update_scaling
use Rattle.spindle.proofs.spindle_gradient_primal.Reads as gradient_primal
use Rattle.spindle.proofs.spindle_barrier_primal.Reads as barrier_primal
use Rattle.spindle.proofs.spindle_compute_barrier.Reads as compute_barrier
use Rattle.spindle.proofs.spindle_get_hs.Reads as get_hs
use Rattle.spindle.proofs.spindle_mul_hs.Reads as mul_hs
use Rattle.spindle.proofs.spindle_higher_correction.Reads as higher_correction
use Rattle.spindle.proofs.spindle_combined_ds_shift.Reads as combined_ds_shift
use Rattle.spindle.proofs.spindle_trace_create.Reads as trace_create
use Rattle.spindle.proofs.spindle_trace_append.Reads as trace_append
use Rattle.spindle.proofs.spindle_trace_open.Reads as trace_open
use Rattle.spindle.proofs.spindle_trace_record.Reads as trace_record
use Rattle.spindle.proofs.spindle_record_put.Reads as record_put
use Rattle.spindle.proofs.spindle_record_at.Reads as record_at
use Rattle.spindle.proofs.spindle_trace_seal.Reads as trace_seal
use Rattle.spindle.proofs.spindle_replay.Reads as replay
use Rattle.spindle.proofs.spindle_rescue.Reads as rescue
use Rattle.spindle.proofs.spindle_thin.Reads as thin
use Rattle.spindle.proofs.spindle_thin_in_place.Reads as thin_in_place
use Rattle.spindle.proofs.spindle_sheet_add.Reads as sheet_add
use Rattle.spindle.proofs.spindle_sheet_join.Reads as sheet_join
use Rattle.spindle.proofs.spindle_sheet_text.Reads as sheet_text

pub version_agrees : OneAnswer version.Post
version_agrees κs a x y s t p q = p ∙ sym q

pub sqrt_agrees : OneAnswer sqrt.Post
sqrt_agrees κs a x y s t p q = p ∙ sym q

pub log_agrees : OneAnswer log.Post
log_agrees κs a x y s t p q = p ∙ sym q

pub exp_agrees : OneAnswer exp.Post
exp_agrees κs a x y s t p q = p ∙ sym q

pub powf_agrees : OneAnswer powf.Post
powf_agrees κs a x y s t p q = p ∙ sym q

pub fresh_agrees : OneAnswer fresh.Post
fresh_agrees κs a x y s t p q = p ∙ sym q

pub is_primal_feasible_agrees : OneAnswer is_primal_feasible.Post
is_primal_feasible_agrees κs a x y s t p q = p.0 ∙ sym q.0

pub is_dual_feasible_agrees : OneAnswer is_dual_feasible.Post
is_dual_feasible_agrees κs a x y s t p q = p.0 ∙ sym q.0

pub barrier_dual_agrees : OneAnswer barrier_dual.Post
barrier_dual_agrees κs a x y s t p q = p ∙ sym q

pub dual_grad_h_agrees : OneAnswer dual_grad_h.Post
dual_grad_h_agrees κs a x y s t p q = p ∙ sym q

pub house_settings_agrees : OneAnswer house_settings.Post
house_settings_agrees κs a x y s t p q = p ∙ sym q

pub house_strategy_agrees : OneAnswer house_strategy.Post
house_strategy_agrees κs a x y s t p q = p ∙ sym q

pub backtrack_search_agrees : OneOutcome backtrack_search.Post {A = List Float} (λ κs s. s.1.1.1.1.0.now)
backtrack_search_agrees κs a x y s t p q = one {A = Found} (p ∙ sym q)

pub step_length_agrees :
    OneOutcome step_length.Post {A = List Float × List Float} (λ κs s. (s.1.1.1.1.1.0.now, s.1.1.1.1.1.1.0.now))
step_length_agrees κs a x y s t p q = two {A = Steps} (p ∙ sym q)

pub common_step_agrees : OneOutcome common_step.Post {A = List Float} (λ κs s. s.1.1.1.1.0.now)
common_step_agrees κs a x y s t p q = one {A = Found} (p ∙ sym q)

pub plan_step_agrees :
    OneOutcome plan_step.Post {A = List Float × List Float} (λ κs s. (s.1.1.1.1.1.0.now, s.1.1.1.1.1.1.0.now))
plan_step_agrees κs a x y s t p q = two {A = Found} (p ∙ sym q)

pub unit_initialization_agrees :
    OneOutcome unit_initialization.Post {A = List Float × List Float} (λ κs s. (s.1.0.now, s.1.1.0.now))
unit_initialization_agrees κs a x y s t p q = two {A = ℕ} (p ∙ sym q)

pub rectify_equilibration_agrees : OneOutcome rectify_equilibration.Post {A = List Float} (λ κs s. s.1.0.now)
rectify_equilibration_agrees κs a x y s t p q = one {A = YesNo} (p ∙ sym q)

pub affine_ds_agrees : OneOutcome affine_ds.Post {A = List Float} (λ κs s. s.1.0.now)
affine_ds_agrees κs a x y s t p q = one {A = ℕ} (p ∙ sym q)

pub ds_from_dz_offset_agrees : OneOutcome ds_from_dz_offset.Post {A = List Float} (λ κs s. s.1.0.now)
ds_from_dz_offset_agrees κs a x y s t p q = one {A = ℕ} (p ∙ sym q)

pub update_scaling_agrees : OneAnswer update_scaling.Post
update_scaling_agrees κs a x y s t p q = p ∙ sym q

pub gradient_primal_agrees : OneOutcome gradient_primal.Post {A = List Float} (λ κs s. s.1.0.now)
gradient_primal_agrees κs a x y s t p q = one {A = Rounds} (p ∙ sym q)

pub barrier_primal_agrees : OneAnswer barrier_primal.Post
barrier_primal_agrees κs a x y s t p q = p ∙ sym q

pub compute_barrier_agrees : OneAnswer compute_barrier.Post
compute_barrier_agrees κs a x y s t p q = p ∙ sym q

pub get_hs_agrees : OneOutcome get_hs.Post {A = List Float} (λ κs s. s.1.1.0.now)
get_hs_agrees κs a x y s t p q = one {A = ℕ} (p ∙ sym q)

pub mul_hs_agrees : OneOutcome mul_hs.Post {A = List Float} (λ κs s. s.1.1.0.now)
mul_hs_agrees κs a x y s t p q = one {A = ℕ} (p ∙ sym q)

pub higher_correction_agrees : OneOutcome higher_correction.Post {A = List Float} (λ κs s. s.1.1.0.now)
higher_correction_agrees κs a x y s t p q = one {A = ℕ} (p ∙ sym q)

pub combined_ds_shift_agrees : OneOutcome combined_ds_shift.Post {A = List Float} (λ κs s. s.1.1.0.now)
combined_ds_shift_agrees κs a x y s t p q = one {A = ℕ} (p ∙ sym q)

pub trace_create_agrees : OneOutcome trace_create.Post {A = List ℕ} (λ κs s. s.0.now)
trace_create_agrees κs a x y s t p q = left (p ∙ sym q)

pub trace_append_agrees : OneOutcome trace_append.Post {A = List ℕ} (λ κs s. s.0.now)
trace_append_agrees κs a x y s t p q = left (p.0 ∙ sym q.0)

pub trace_open_agrees : OneAnswer trace_open.Post
trace_open_agrees κs a x y s t p q = p ∙ sym q

pub trace_record_agrees : OneAnswer trace_record.Post
trace_record_agrees κs a x y s t p q = p ∙ sym q

pub record_put_agrees : OneOutcome record_put.Post {A = List ℕ} (λ κs s. s.0.now)
record_put_agrees κs a x y s t p q = left (p.0 ∙ sym q.0)

pub record_at_agrees : OneAnswer record_at.Post
record_at_agrees κs a x y s t p q = p ∙ sym q

pub trace_seal_agrees : OneOutcome trace_seal.Post {A = List ℕ} (λ κs s. s.0.now)
trace_seal_agrees κs a x y s t p q = left (p ∙ sym q)

pub replay_agrees : OneOutcome replay.Post {A = List ℕ} (λ κs s. s.1.0.now)
replay_agrees κs a x y s t p q = noted_alike (p ∙ sym q)

pub rescue_agrees : OneOutcome rescue.Post {A = List ℕ} (λ κs s. s.1.0.now)
rescue_agrees κs a x y s t p q = saved_alike (p.0 ∙ sym q.0)

pub thin_agrees : OneOutcome thin.Post {A = List ℕ} (λ κs s. s.1.0.now)
thin_agrees κs a x y s t p q = left_alike (p.0 ∙ sym q.0)

pub thin_in_place_agrees : OneOutcome thin_in_place.Post {A = List ℕ} (λ κs s. s.0.now)
thin_in_place_agrees κs a x y s t p q = left_alike (p.0 ∙ sym q.0)

pub sheet_add_agrees : OneOutcome sheet_add.Post {A = List ℕ × List ℕ × List ℕ}
    (λ κs s. (s.1.0.now, s.1.1.0.now, s.1.1.1.0.now))
sheet_add_agrees κs a x y s t p q = held_alike (p ∙ sym q)

pub sheet_join_agrees : OneOutcome sheet_join.Post {A = List ℕ × List ℕ × List ℕ}
    (λ κs s. (s.1.0.now, s.1.1.0.now, s.1.1.1.0.now))
sheet_join_agrees κs a x y s t p q = held_alike (p ∙ sym q)

pub sheet_text_agrees : OneOutcome sheet_text.Post {A = List ℕ} (λ κs s. s.0.now)
sheet_text_agrees κs a x y s t p q = told_alike (p ∙ sym q)
