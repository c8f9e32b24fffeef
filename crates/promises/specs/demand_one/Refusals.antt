-- Demand 1: "Public entries refuse by the numbers in document 01, hand back zeros, and keep every lent buffer and scaling record unchanged."
-- 01: "A refusal returns zeros for all numbers and no for a yes or no, changes no lent buffer, and returns the scaling record bit for bit."
-- What that is of each call, and the one statement; proofs/demand_one/Refusals proves it.
use Rattle.std.specs.Prelude.{ℕ, ◌≡◌, false, replicate}
use Rattle.double.specs.Numbers.{#0}
use Rattle.cone.specs.declared.Cone.{Cone}
use Rattle.cone.specs.declared.Found.{Found}
use Rattle.cone.specs.declared.Steps.{Steps}
use Rattle.cone.specs.declared.Three.{Three}
use Rattle.cone.specs.declared.Wide.{Wide}
use Rattle.cone.specs.declared.Scaling.{Scaling}
use Rattle.trace.specs.declared.value.Recorded.{Recorded}
use Rattle.trace_sheet.specs.declared.counts.Largest.{Largest}
use Rattle.promises.specs.rules.Entries.{Entry, Answered, with_cone, verdict, number, dual_grad, written, written_two, rectified, counted}
use Rattle.promises.specs.rules.Entries.{found, found_two, updated, fresh, is_primal_feasible, is_dual_feasible, barrier_dual, dual_grad_h}
use Rattle.promises.specs.rules.Entries.{unit_initialization, rectify_equilibration, affine_ds, ds_from_dz_offset, backtrack_search, step_length}
use Rattle.promises.specs.rules.Entries.{update_scaling, gradient_primal, barrier_primal, compute_barrier}
use Rattle.promises.specs.rules.Entries.{get_hs, mul_hs, higher_correction, combined_ds_shift}
use Rattle.promises.specs.demand_one.Calls.{Call, Outcome, number_of, made, entry, common_step, plan_step, trace_create, trace_append}
use Rattle.promises.specs.demand_one.Calls.{trace_open, trace_record, record_put, record_at, trace_seal}
use Rattle.promises.specs.demand_one.Calls.{replay, rescue, thin, thin_in_place, sheet_add, sheet_join, sheet_text}
use Rattle.promises.specs.demand_one.Calls.{answered, common, both, wrote, opened, recorded, replayed, rescued, thinned, summed, printed}

-- ---- zeros

abbrev pub zero_cone : Cone
zero_cone = record { kind = 0; dim1 = 0; dim2 = 0; rule = 0; exps = replicate 32 #0 }

abbrev pub zero_three : Three
zero_three = record { z = replicate 3 #0; grad = replicate 3 #0; hdual = replicate 6 #0; hs = replicate 6 #0 }

abbrev pub zero_wide : Wide
zero_wide = record {
  z = replicate 64 #0;
  mu = #0;
  grad = replicate 64 #0;
  p = replicate 64 #0;
  q = replicate 32 #0;
  r = replicate 32 #0;
  d1 = replicate 32 #0;
  d2 = #0;
}

abbrev pub zero_record : Scaling
zero_record = record { cone = zero_cone; scaled = 0; serial = 0; three = zero_three; wide = zero_wide }

abbrev pub zero_found : ℕ → Found
zero_found k = record { code = k; count = 0; step = #0 }

abbrev pub zero_steps : ℕ → Steps
zero_steps k = record { code = k; dualcount = 0; primalcount = 0; dualstep = #0; primalstep = #0 }

abbrev pub zero_recorded : ℕ → Recorded
zero_recorded k = record {
  code = k;
  flag = 0;
  at = 0;
  next = 0;
  cone = zero_cone;
  settings = record { start = #0; step = #0; smallest = #0 };
  dz = replicate 64 #0;
  ds = replicate 64 #0;
  z = replicate 64 #0;
  s = replicate 64 #0;
  steps = zero_steps 0;
}

abbrev pub zero_largest : Largest
zero_largest = record { size = 0; file = 0; at = 0 }

-- ---- the refusal of each call with the number k: each slice is the one that was lent, with what it held. A verdict's no is 0

unfoldable pub refused_entry : Entry → Cone → ℕ → Answered
refused_entry fresh c k = updated (record { code = k; scaling = zero_record })
refused_entry (is_primal_feasible s) c k = verdict (record { code = k; answer = 0 })
refused_entry (is_dual_feasible z) c k = verdict (record { code = k; answer = 0 })
refused_entry (barrier_dual z) c k = number (record { code = k; value = #0 })
refused_entry (dual_grad_h z) c k = dual_grad (record { code = k; three = zero_three; wide = zero_wide })
refused_entry (unit_initialization z s) c k = written_two (record { answer = k; first = z; second = s })
refused_entry (rectify_equilibration δ e) c k = rectified (record { answer = record { code = k; yes = false }; slice = δ })
refused_entry (affine_ds ds s) c k = written (record { answer = k; slice = ds })
refused_entry (ds_from_dz_offset out ds z) c k = written (record { answer = k; slice = out })
refused_entry (backtrack_search primal dq q point how) c k = found (record { answer = zero_found k; slice = point })
refused_entry (step_length dz ds z s dual_point primal_point how) c k =
    found_two (record { answer = zero_steps k; first = dual_point; second = primal_point })
-- "returns the scaling record bit for bit"
refused_entry (update_scaling r s z μ strategy) c k = updated (record { code = k; scaling = with_cone c r })
refused_entry (gradient_primal r g s) c k = counted (record { answer = record { code = k; rounds = 0 }; slice = g })
refused_entry (barrier_primal r s) c k = number (record { code = k; value = #0 })
refused_entry (compute_barrier r z s dz ds step) c k = number (record { code = k; value = #0 })
refused_entry (get_hs r serial block) c k = written (record { answer = k; slice = block })
refused_entry (mul_hs r serial y x) c k = written (record { answer = k; slice = y })
refused_entry (higher_correction r serial η ds v) c k = written (record { answer = k; slice = η })
refused_entry (combined_ds_shift r serial out stepz steps σμ) c k = written (record { answer = k; slice = out })

unfoldable pub refused : Call → ℕ → Outcome
refused (entry e c) k = answered (refused_entry e c k)
refused (common_step cs primal dq q point s) k = common (record { answer = zero_found k; slice = point })
refused (plan_step cs dz ds z s dual_point primal_point how) k =
    both (record { answer = zero_found k; first = dual_point; second = primal_point })
refused (trace_create bytes) k = wrote (record { answer = record { code = k; length = 0 }; bytes = bytes })
refused (trace_append bytes used a) k = wrote (record { answer = record { code = k; length = 0 }; bytes = bytes })
refused (trace_open bytes) k = opened (record { code = k; edition = 0; records = 0 })
refused (trace_record bytes i) k = recorded (zero_recorded k)
refused (record_put bytes at edition a) k = wrote (record { answer = record { code = k; length = 0 }; bytes = bytes })
refused (record_at bytes edition at) k = recorded (zero_recorded k)
refused (trace_seal bytes used edition) k = wrote (record { answer = record { code = k; length = 0 }; bytes = bytes })
refused (replay bytes offsets) k = replayed (record { answer = record { code = k; records = 0; same = 0; differ = 0 }; offsets = offsets })
refused (rescue input output edition) k =
    rescued (record { answer = record { code = k; kept = 0; dropped = 0; length = 0; right = false }; output = output })
refused (thin bytes output) k = thinned (record { answer = record { code = k; kept = 0; dropped = 0; length = 0 }; output = output })
refused (thin_in_place bytes) k = thinned (record { answer = record { code = k; kept = 0; dropped = 0; length = 0 }; output = bytes })
refused (sheet_add h file) k =
    summed (record {
      totals = record { code = k; files = 0; records = 0; dual = zero_largest; primal = zero_largest };
      dual = h.dual;
      primal = h.primal;
      skipped = h.skipped;
    })
refused (sheet_join h second) k =
    summed (record {
      totals = record { code = k; files = 0; records = 0; dual = zero_largest; primal = zero_largest };
      dual = h.dual;
      primal = h.primal;
      skipped = h.skipped;
    })
refused (sheet_text bytes h) k = printed (record { answer = record { code = k; length = 0 }; text = bytes })

-- the statement: a call with another number than 0 is the refusal with that number, whatever its arguments
abbrev pub DemandOne : Type 0
DemandOne = (a : Call) → (number_of a ≡ 0 → ⊥) → made a ≡ refused a (number_of a)
