-- What the contracts of include/spindle.h allow: `Allowed a o` says that the library's contract of the call a allows the outcome o. `Post` is
-- the claim of a call's `ensures`, of the arguments, the answer and what is lent at exit; κs are the lifetimes of what is lent. A theorem
-- about every call, whatever its caller passes, is stated over this one type. Definitions only.
use Rattle.cone.specs.words.Words.{cones_of}
use Rattle.promises.specs.rules.Entries.{verdict, number, dual_grad, written, written_two, rectified, counted, found, found_two, updated}
use Rattle.promises.specs.rules.Entries.{fresh, is_primal_feasible, is_dual_feasible, barrier_dual, dual_grad_h, unit_initialization}
use Rattle.promises.specs.rules.Entries.{rectify_equilibration, affine_ds, ds_from_dz_offset, backtrack_search, step_length, update_scaling}
use Rattle.promises.specs.rules.Entries.{gradient_primal, barrier_primal, compute_barrier, get_hs, mul_hs, higher_correction}
use Rattle.promises.specs.rules.Entries.{combined_ds_shift}
use Rattle.promises.specs.demand_one.Calls.{Call, Outcome, entry, common_step, plan_step, trace_create, trace_append}
use Rattle.promises.specs.demand_one.Calls.{trace_open, trace_record, record_put, record_at, trace_seal, replay, rescue, thin}
use Rattle.promises.specs.demand_one.Calls.{thin_in_place, sheet_add, sheet_join, sheet_text, answered, common, both, wrote, opened}
use Rattle.promises.specs.demand_one.Calls.{recorded, replayed, rescued, thinned, summed, printed}
use Rattle.promises.specs.allowed.InPlace.{lent, others}
use Rattle.spindle.proofs.spindle_fresh.Reads as fresh
use Rattle.spindle.proofs.spindle_is_primal_feasible.Reads as is_primal_feasible
use Rattle.spindle.proofs.spindle_is_dual_feasible.Reads as is_dual_feasible
use Rattle.spindle.proofs.spindle_barrier_dual.Reads as barrier_dual
use Rattle.spindle.proofs.spindle_dual_grad_h.Reads as dual_grad_h
use Rattle.spindle.proofs.spindle_unit_initialization.Reads as unit_initialization
use Rattle.spindle.proofs.spindle_rectify_equilibration.Reads as rectify_equilibration
use Rattle.spindle.proofs.spindle_affine_ds.Reads as affine_ds
use Rattle.spindle.proofs.spindle_ds_from_dz_offset.Reads as ds_from_dz_offset
use Rattle.spindle.proofs.spindle_backtrack_search.Reads as backtrack_search
use Rattle.spindle.proofs.spindle_step_length.Reads as step_length
use Rattle.spindle.proofs.spindle_update_scaling.Reads as update_scaling
use Rattle.spindle.proofs.spindle_gradient_primal.Reads as gradient_primal
use Rattle.spindle.proofs.spindle_barrier_primal.Reads as barrier_primal
use Rattle.spindle.proofs.spindle_compute_barrier.Reads as compute_barrier
use Rattle.spindle.proofs.spindle_get_hs.Reads as get_hs
use Rattle.spindle.proofs.spindle_mul_hs.Reads as mul_hs
use Rattle.spindle.proofs.spindle_higher_correction.Reads as higher_correction
use Rattle.spindle.proofs.spindle_combined_ds_shift.Reads as combined_ds_shift
use Rattle.spindle.proofs.spindle_common_step.Reads as common_step
use Rattle.spindle.proofs.spindle_plan_step.Reads as plan_step
use Rattle.spindle.proofs.spindle_trace_create.Reads as trace_create
use Rattle.spindle.proofs.spindle_trace_append.Reads as trace_append
use Rattle.spindle.proofs.spindle_trace_open.Reads as trace_open
use Rattle.spindle.proofs.spindle_trace_record.Reads as trace_record
use Rattle.spindle.proofs.spindle_record_put.Reads as record_put
use Rattle.spindle.proofs.spindle_record_at.Reads as record_at
use Rattle.spindle.proofs.spindle_trace_seal.Reads as trace_seal
use Rattle.spindle.proofs.spindle_replay.Reads as replay
use Rattle.spindle.proofs.spindle_rescue.Reads as rescue
use Rattle.spindle.proofs.spindle_thin.Reads as thin
use Rattle.spindle.proofs.spindle_thin_in_place.Reads as thin_in_place
use Rattle.spindle.proofs.spindle_sheet_add.Reads as sheet_add
use Rattle.spindle.proofs.spindle_sheet_join.Reads as sheet_join
use Rattle.spindle.proofs.spindle_sheet_text.Reads as sheet_text
use Rattle.spindle.proofs.spindle_lent_update_scaling.Reads as lent_update_scaling
use Rattle.spindle.proofs.spindle_lent_gradient_primal.Reads as lent_gradient_primal
use Rattle.spindle.proofs.spindle_lent_barrier_primal.Reads as lent_barrier_primal
use Rattle.spindle.proofs.spindle_lent_compute_barrier.Reads as lent_compute_barrier
use Rattle.spindle.proofs.spindle_lent_get_hs.Reads as lent_get_hs
use Rattle.spindle.proofs.spindle_lent_mul_hs.Reads as lent_mul_hs
use Rattle.spindle.proofs.spindle_lent_higher_correction.Reads as lent_higher_correction
use Rattle.spindle.proofs.spindle_lent_combined_ds_shift.Reads as lent_combined_ds_shift

pub data Allowed : Call → Outcome → Type 0 where
  spindle_fresh :
      (κs : _) (c : _) (answer : _) (exit : _)
      → fresh.Post κs (c, tt) answer exit
      → Allowed (entry fresh c)
      (answered (updated answer))
  spindle_is_primal_feasible :
      (κs : _) (c : _) (s : _) (answer : _) (exit : _)
      → is_primal_feasible.Post κs (c, (s, tt)) answer exit
      → Allowed (entry (is_primal_feasible s.now) c)
      (answered (verdict answer))
  spindle_is_dual_feasible :
      (κs : _) (c : _) (z : _) (answer : _) (exit : _)
      → is_dual_feasible.Post κs (c, (z, tt)) answer exit
      → Allowed (entry (is_dual_feasible z.now) c)
      (answered (verdict answer))
  spindle_barrier_dual :
      (κs : _) (c : _) (z : _) (answer : _) (exit : _)
      → barrier_dual.Post κs (c, (z, tt)) answer exit
      → Allowed (entry (barrier_dual z.now) c)
      (answered (number answer))
  spindle_dual_grad_h :
      (κs : _) (c : _) (z : _) (answer : _) (exit : _)
      → dual_grad_h.Post κs (c, (z, tt)) answer exit
      → Allowed (entry (dual_grad_h z.now) c)
      (answered (dual_grad answer))
  spindle_unit_initialization :
      (κs : _) (c : _) (z : _) (s : _) (answer : _) (exit : _)
      → unit_initialization.Post κs (c, (z, (s, tt))) answer exit
      → Allowed (entry (unit_initialization z.now s.now) c)
      (answered (written_two (record { answer = answer; first = exit.1.0.now; second = exit.1.1.0.now })))
  spindle_rectify_equilibration :
      (κs : _) (c : _) (δ : _) (e : _) (answer : _) (exit : _)
      → rectify_equilibration.Post κs (c, (δ, (e, tt))) answer exit
      → Allowed (entry (rectify_equilibration δ.now e.now) c)
      (answered (rectified (record { answer = answer; slice = exit.1.0.now })))
  spindle_affine_ds :
      (κs : _) (c : _) (ds : _) (s : _) (answer : _) (exit : _)
      → affine_ds.Post κs (c, (ds, (s, tt))) answer exit
      → Allowed (entry (affine_ds ds.now s.now) c)
      (answered (written (record { answer = answer; slice = exit.1.0.now })))
  spindle_ds_from_dz_offset :
      (κs : _) (c : _) (out : _) (ds : _) (z : _) (answer : _) (exit : _)
      → ds_from_dz_offset.Post κs (c, (out, (ds, (z, tt)))) answer exit
      → Allowed (entry (ds_from_dz_offset out.now ds.now z.now) c)
      (answered (written (record { answer = answer; slice = exit.1.0.now })))
  spindle_backtrack_search :
      (κs : _) (c : _) (primal : _) (dq : _) (q : _) (point : _) (how : _) (answer : _) (exit : _)
      → backtrack_search.Post κs (c, (primal, (dq, (q, (point, (how, tt)))))) answer exit
      → Allowed (entry (backtrack_search primal dq.now q.now point.now how) c)
      (answered (found (record { answer = answer; slice = exit.1.1.1.1.0.now })))
  spindle_step_length :
      (κs : _) (c : _) (dz : _) (ds : _) (z : _) (s : _) (dual_point : _) (primal_point : _) (how : _) (answer : _) (exit : _)
      → step_length.Post κs (c, (dz, (ds, (z, (s, (dual_point, (primal_point, (how, tt)))))))) answer exit
      → Allowed (entry (step_length dz.now ds.now z.now s.now dual_point.now primal_point.now how) c)
      (answered (found_two (record { answer = answer; first = exit.1.1.1.1.1.0.now; second = exit.1.1.1.1.1.1.0.now })))
  spindle_update_scaling :
      (κs : _) (r : _) (s : _) (z : _) (μ : _) (strategy : _) (answer : _) (exit : _)
      → update_scaling.Post κs (r, (s, (z, (μ, (strategy, tt))))) answer exit
      → Allowed (entry (update_scaling r s.now z.now μ strategy) r.cone)
      (answered (updated answer))
  spindle_gradient_primal :
      (κs : _) (r : _) (g : _) (s : _) (answer : _) (exit : _)
      → gradient_primal.Post κs (r, (g, (s, tt))) answer exit
      → Allowed (entry (gradient_primal r g.now s.now) r.cone)
      (answered (counted (record { answer = answer; slice = exit.1.0.now })))
  spindle_barrier_primal :
      (κs : _) (r : _) (s : _) (answer : _) (exit : _)
      → barrier_primal.Post κs (r, (s, tt)) answer exit
      → Allowed (entry (barrier_primal r s.now) r.cone)
      (answered (number answer))
  spindle_compute_barrier :
      (κs : _) (r : _) (z : _) (s : _) (dz : _) (ds : _) (step : _) (answer : _) (exit : _)
      → compute_barrier.Post κs (r, (z, (s, (dz, (ds, (step, tt)))))) answer exit
      → Allowed (entry (compute_barrier r z.now s.now dz.now ds.now step) r.cone)
      (answered (number answer))
  spindle_get_hs :
      (κs : _) (r : _) (serial : _) (block : _) (answer : _) (exit : _)
      → get_hs.Post κs (r, (serial, (block, tt))) answer exit
      → Allowed (entry (get_hs r serial block.now) r.cone)
      (answered (written (record { answer = answer; slice = exit.1.1.0.now })))
  spindle_mul_hs :
      (κs : _) (r : _) (serial : _) (y : _) (x : _) (answer : _) (exit : _)
      → mul_hs.Post κs (r, (serial, (y, (x, tt)))) answer exit
      → Allowed (entry (mul_hs r serial y.now x.now) r.cone)
      (answered (written (record { answer = answer; slice = exit.1.1.0.now })))
  spindle_higher_correction :
      (κs : _) (r : _) (serial : _) (η : _) (ds : _) (v : _) (answer : _) (exit : _)
      → higher_correction.Post κs (r, (serial, (η, (ds, (v, tt))))) answer exit
      → Allowed (entry (higher_correction r serial η.now ds.now v.now) r.cone)
      (answered (written (record { answer = answer; slice = exit.1.1.0.now })))
  spindle_combined_ds_shift :
      (κs : _) (r : _) (serial : _) (out : _) (stepz : _) (steps : _) (σμ : _) (answer : _) (exit : _)
      → combined_ds_shift.Post κs (r, (serial, (out, (stepz, (steps, (σμ, tt)))))) answer exit
      → Allowed (entry (combined_ds_shift r serial out.now stepz.now steps.now σμ) r.cone)
      (answered (written (record { answer = answer; slice = exit.1.1.0.now })))
  spindle_common_step :
      (κs : _) (cs : _) (primal : _) (dq : _) (q : _) (point : _) (how : _) (answer : _) (exit : _)
      → common_step.Post κs (cs, (primal, (dq, (q, (point, (how, tt)))))) answer exit
      → Allowed (common_step (cones_of cs.now) primal dq.now q.now point.now how)
      (common (record { answer = answer; slice = exit.1.1.1.1.0.now }))
  spindle_plan_step :
      (κs : _) (cs : _) (dz : _) (ds : _) (z : _) (s : _) (dual_point : _) (primal_point : _) (how : _) (answer : _) (exit : _)
      → plan_step.Post κs (cs, (dz, (ds, (z, (s, (dual_point, (primal_point, (how, tt)))))))) answer exit
      → Allowed (plan_step (cones_of cs.now) dz.now ds.now z.now s.now dual_point.now primal_point.now how)
      (both (record { answer = answer; first = exit.1.1.1.1.1.0.now; second = exit.1.1.1.1.1.1.0.now }))
  spindle_trace_create :
      (κs : _) (bytes : _) (answer : _) (exit : _)
      → trace_create.Post κs (bytes, tt) answer exit
      → Allowed (trace_create bytes.now)
      (wrote (record { answer = answer; bytes = exit.0.now }))
  spindle_trace_append :
      (κs : _) (bytes : _) (used : _) (c : _) (flag : _) (settings : _) (dz : _) (ds : _) (z : _) (s : _) (steps : _) (answer : _) (exit : _)
      → trace_append.Post κs (bytes, (used, (c, (flag, (settings, (dz, (ds, (z, (s, (steps, tt)))))))))) answer exit
      → Allowed (trace_append bytes.now used (record {
        cone = c;
        flag = flag;
        settings = settings;
        dz = dz.now;
        ds = ds.now;
        z = z.now;
        s = s.now;
        steps = steps;
      }))
      (wrote (record { answer = answer; bytes = exit.0.now }))
  spindle_trace_open :
      (κs : _) (bytes : _) (answer : _) (exit : _)
      → trace_open.Post κs (bytes, tt) answer exit
      → Allowed (trace_open bytes.now)
      (opened answer)
  spindle_trace_record :
      (κs : _) (bytes : _) (i : _) (answer : _) (exit : _)
      → trace_record.Post κs (bytes, (i, tt)) answer exit
      → Allowed (trace_record bytes.now i)
      (recorded answer)
  spindle_record_put :
      (κs : _) (bytes : _) (at : _) (edition : _) (c : _) (flag : _) (settings : _) (dz : _) (ds : _) (z : _) (s : _) (steps : _)
      (answer : _) (exit : _)
      → record_put.Post κs (bytes, (at, (edition, (c, (flag, (settings, (dz, (ds, (z, (s, (steps, tt))))))))))) answer exit
      → Allowed (record_put bytes.now at edition (record {
        cone = c;
        flag = flag;
        settings = settings;
        dz = dz.now;
        ds = ds.now;
        z = z.now;
        s = s.now;
        steps = steps;
      }))
      (wrote (record { answer = answer; bytes = exit.0.now }))
  spindle_record_at :
      (κs : _) (bytes : _) (edition : _) (at : _) (answer : _) (exit : _)
      → record_at.Post κs (bytes, (edition, (at, tt))) answer exit
      → Allowed (record_at bytes.now edition at)
      (recorded answer)
  spindle_trace_seal :
      (κs : _) (bytes : _) (used : _) (edition : _) (answer : _) (exit : _)
      → trace_seal.Post κs (bytes, (used, (edition, tt))) answer exit
      → Allowed (trace_seal bytes.now used edition)
      (wrote (record { answer = answer; bytes = exit.0.now }))
  spindle_replay :
      (κs : _) (bytes : _) (offsets : _) (answer : _) (exit : _)
      → replay.Post κs (bytes, (offsets, tt)) answer exit
      → Allowed (replay bytes.now offsets.now)
      (replayed (record { answer = answer; offsets = exit.1.0.now }))
  spindle_rescue :
      (κs : _) (input : _) (output : _) (edition : _) (answer : _) (exit : _)
      → rescue.Post κs (input, (output, (edition, tt))) answer exit
      → Allowed (rescue input.now output.now edition)
      (rescued (record { answer = answer; output = exit.1.0.now }))
  spindle_thin :
      (κs : _) (bytes : _) (output : _) (answer : _) (exit : _)
      → thin.Post κs (bytes, (output, tt)) answer exit
      → Allowed (thin bytes.now output.now)
      (thinned (record { answer = answer; output = exit.1.0.now }))
  spindle_thin_in_place :
      (κs : _) (bytes : _) (answer : _) (exit : _)
      → thin_in_place.Post κs (bytes, tt) answer exit
      → Allowed (thin_in_place bytes.now)
      (thinned (record { answer = answer; output = exit.0.now }))
  spindle_sheet_add :
      (κs : _) (totals : _) (dual : _) (primal : _) (skipped : _) (file : _) (answer : _) (exit : _)
      → sheet_add.Post κs (totals, (dual, (primal, (skipped, (file, tt))))) answer exit
      → Allowed (sheet_add (record { totals = totals; dual = dual.now; primal = primal.now; skipped = skipped.now }) file.now)
      (summed (record { totals = answer; dual = exit.1.0.now; primal = exit.1.1.0.now; skipped = exit.1.1.1.0.now }))
  spindle_sheet_join :
      (κs : _) (totals : _) (dual : _) (primal : _) (skipped : _) (totals2 : _) (dual2 : _) (primal2 : _) (skipped2 : _) (answer : _) (exit : _)
      → sheet_join.Post κs (totals, (dual, (primal, (skipped, (totals2, (dual2, (primal2, (skipped2, tt)))))))) answer exit
      → Allowed (sheet_join (record { totals = totals; dual = dual.now; primal = primal.now; skipped = skipped.now })
      (record { totals = totals2; dual = dual2.now; primal = primal2.now; skipped = skipped2.now }))
      (summed (record { totals = answer; dual = exit.1.0.now; primal = exit.1.1.0.now; skipped = exit.1.1.1.0.now }))
  spindle_sheet_text :
      (κs : _) (bytes : _) (totals : _) (dual : _) (primal : _) (skipped : _) (answer : _) (exit : _)
      → sheet_text.Post κs (bytes, (totals, (dual, (primal, (skipped, tt))))) answer exit
      → Allowed (sheet_text bytes.now (record { totals = totals; dual = dual.now; primal = primal.now; skipped = skipped.now }))
      (printed (record { answer = answer; text = exit.0.now }))
  -- The eight calls over a record in place, behind the line of C that takes the record apart: a is its parts and the call's other arguments.
  -- What they allow is what the call by value allows of that record
  spindle_lent_update_scaling :
      (κs : _) (a : _) (answer : _) (exit : _)
      → lent_update_scaling.Post κs a answer exit
      → Allowed (entry (update_scaling (lent a) (others a).0.now (others a).1.0.now (others a).1.1.0 (others a).1.1.1.0)
      (lent a).cone)
      (answered (updated answer))
  spindle_lent_gradient_primal :
      (κs : _) (a : _) (answer : _) (exit : _)
      → lent_gradient_primal.Post κs a answer exit
      → Allowed (entry (gradient_primal (lent a) (others a).0.now (others a).1.0.now) (lent a).cone)
      (answered (counted (record { answer = answer; slice = (others exit).0.now })))
  spindle_lent_barrier_primal :
      (κs : _) (a : _) (answer : _) (exit : _)
      → lent_barrier_primal.Post κs a answer exit
      → Allowed (entry (barrier_primal (lent a) (others a).0.now) (lent a).cone)
      (answered (number answer))
  spindle_lent_compute_barrier :
      (κs : _) (a : _) (answer : _) (exit : _)
      → lent_compute_barrier.Post κs a answer exit
      → Allowed (entry (compute_barrier (lent a) (others a).0.now (others a).1.0.now (others a).1.1.0.now
      (others a).1.1.1.0.now (others a).1.1.1.1.0) (lent a).cone)
      (answered (number answer))
  spindle_lent_get_hs :
      (κs : _) (a : _) (answer : _) (exit : _)
      → lent_get_hs.Post κs a answer exit
      → Allowed (entry (get_hs (lent a) (others a).0 (others a).1.0.now) (lent a).cone)
      (answered (written (record { answer = answer; slice = (others exit).1.0.now })))
  spindle_lent_mul_hs :
      (κs : _) (a : _) (answer : _) (exit : _)
      → lent_mul_hs.Post κs a answer exit
      → Allowed (entry (mul_hs (lent a) (others a).0 (others a).1.0.now (others a).1.1.0.now) (lent a).cone)
      (answered (written (record { answer = answer; slice = (others exit).1.0.now })))
  spindle_lent_higher_correction :
      (κs : _) (a : _) (answer : _) (exit : _)
      → lent_higher_correction.Post κs a answer exit
      → Allowed (entry (higher_correction (lent a) (others a).0 (others a).1.0.now (others a).1.1.0.now
      (others a).1.1.1.0.now) (lent a).cone)
      (answered (written (record { answer = answer; slice = (others exit).1.0.now })))
  spindle_lent_combined_ds_shift :
      (κs : _) (a : _) (answer : _) (exit : _)
      → lent_combined_ds_shift.Post κs a answer exit
      → Allowed (entry (combined_ds_shift (lent a) (others a).0 (others a).1.0.now (others a).1.1.0.now
      (others a).1.1.1.0.now (others a).1.1.1.1.0) (lent a).cone)
      (answered (written (record { answer = answer; slice = (others exit).1.0.now })))
