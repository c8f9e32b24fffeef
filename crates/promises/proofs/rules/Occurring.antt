-- A contract is an equation, and its right side is an outcome. What is lent lies anywhere. Assumes nothing.
use mathlib.Core.Path.{refl}
use mathlib.Core.List.{[]}
use denote.Ref.{Bor}
use denote.MutBor.{MutBor}
use Rattle.promises.specs.rules.Entries.{call, with_cone}
use Rattle.promises.specs.rules.Calls.{passed, RecordCallsOccur}
use Rattle.promises.specs.allowed.Allowed as allowed

abbrev lend : {X : Type 0} → X → Bor X
lend x = record { ref_ptr = (0, 0); now = x }

abbrev lend_mut : {X : Type 0} → X → MutBor X
lend_mut x = record { ref_ptr = (0, 0); ghost_name = 0; now = x }

pub record_calls_occur : RecordCallsOccur
unfolding call passed
record_calls_occur = record {
  update = λ r s z μ strategy c.
      let held = with_cone c r in
      allowed.spindle_update_scaling ([], ([], tt)) held (lend s) (lend z) μ strategy _ (held, (lend s, (lend z, (μ, (strategy, tt))))) refl;
  gradient = λ r g s c.
      let held = with_cone c r in
      allowed.spindle_gradient_primal ([], ([], tt)) held (lend_mut g) (lend s) _ (held, (lend_mut _, (lend s, tt))) refl;
  primal = λ r s c.
      let held = with_cone c r in
      allowed.spindle_barrier_primal ([], tt) held (lend s) _ (held, (lend s, tt)) refl;
  barrier = λ r z s dz ds step c.
      let held = with_cone c r in
      allowed.spindle_compute_barrier ([], ([], ([], ([], tt)))) held (lend z) (lend s) (lend dz) (lend ds) step _
      (held, (lend z, (lend s, (lend dz, (lend ds, (step, tt)))))) refl;
  block = λ r serial b c.
      let held = with_cone c r in
      allowed.spindle_get_hs ([], tt) held serial (lend_mut b) _ (held, (serial, (lend_mut _, tt))) refl;
  product = λ r serial y x c.
      let held = with_cone c r in
      allowed.spindle_mul_hs ([], ([], tt)) held serial (lend_mut y) (lend x) _ (held, (serial, (lend_mut _, (lend x, tt)))) refl;
  correction = λ r serial η ds v c.
      let held = with_cone c r in
      allowed.spindle_higher_correction ([], ([], ([], tt))) held serial (lend_mut η) (lend ds) (lend v) _
      (held, (serial, (lend_mut _, (lend ds, (lend v, tt))))) refl;
  shift = λ r serial out stepz steps σμ c.
      let held = with_cone c r in
      allowed.spindle_combined_ds_shift ([], ([], ([], tt))) held serial (lend_mut out) (lend stepz) (lend steps) σμ _
      (held, (serial, (lend_mut _, (lend stepz, (lend steps, (σμ, tt)))))) refl;
}
