-- A record that is the same was searched with the number 0, so that no row of the table applied to what it holds. Assumes nothing.
use Prim.Native.Nat.{ℕ, ◌+◌}
use mathlib.Core.Path.{◌≡◌, refl, sym, ◌∙◌}
use mathlib.Core.Bool.{Bool, true, false, cond, ◌&&◌}
use mathlib.Core.List.{List}
use native.Mathlib.Omega.{arith}
use lib.Dec.{eqb, leb}
use lib.Ieee.{Float, binary64, of_bits}
use lib.ListN.{length, take, length-map}
use borrow.Author.Tests.{eqb-true, not-false}
use Rattle.arith.proofs.Branches.{and_left, and_right, and_both, false_not_true}
use Rattle.cone.specs.declared.Steps.{Steps}
use Rattle.cone.specs.Codes.{numel_of}
use Rattle.cone.proofs.table.Settled.{NoFault, no_fault}
use Rattle.judges.specs.Judges.{cone_ok, sides_finite, settings_finite, settings_ok}
use Rattle.judges.specs.Refusals.{LentTwo}
use Rattle.call_search.specs.single.Rows.{step_faults}
use Rattle.call_search.specs.single.Entries.{refuse_steps, step_length_of}
use Rattle.call_search.proofs.single.Demand3.{let_through}
use Rattle.trace_layout.specs.Records.{Record, Laid, dims_ok, shape_ok}
use Rattle.cone.specs.Points.{padded}
use Rattle.cone.proofs.Points.{padded_front}
use Rattle.trace.specs.value.Recorded.{values_of, cone_of, settings_of, steps_of, recorded_of}
use Rattle.trace_replay.specs.rerun.Rerun.{blank_point, rerun_of, agrees_of}
use Rattle.trace_replay.specs.call.Replay.{same_record}
use Rattle.promises.specs.replay_kept.Refused.{RefusedDiffers}
use Rattle.promises.proofs.replay_kept.Exactly.{compared}

-- ---- the vectors of a record that can be laid out have the cone's length

numel_by : (is-3 : Bool) (kind d₁ d₂ : ℕ)
    → cond is-3 (leb 1 d₁ && leb d₁ 32 && leb 1 d₂ && leb d₂ 32) (leb 1 kind && leb kind 2 && eqb d₁ 3 && eqb d₂ 0) ≡ true
    → cond is-3 (d₁ + d₂) 3 ≡ d₁ + d₂
numel_by true kind d₁ d₂ h = refl
numel_by false kind d₁ d₂ h =
    let kinds = leb 1 kind && leb kind 2 in
    omega (
      arith,
      eqb-true d₁ 3 (and_right kinds (eqb d₁ 3) (and_left (kinds && eqb d₁ 3) (eqb d₂ 0) h)),
      eqb-true d₂ 0 (and_right (kinds && eqb d₁ 3) (eqb d₂ 0) h),
    )

numel_laid : (e : ℕ) (r : Record) → Laid e r → numel_of (cone_of r) ≡ r.dim1 + r.dim2
unfolding numel_of cone_of shape_ok dims_ok
numel_laid e r l = numel_by (eqb r.kind 3) r.kind r.dim1 r.dim2 (and_left _ (leb r.flag 1) l.shape)

vector_back : (n : ℕ) (ws : List ℕ) → length ws ≡ n → take n (padded 64 (values_of ws)) ≡ values_of ws
vector_back n ws h = padded_front 64 (values_of ws) n (length-map ws (of_bits binary64) ∙ h)

-- ---- what a record that is the same has

record Has (e : ℕ) (r : Record) : Type 0 where
  pub cone : cone_ok (cone_of r) ≡ true
  pub numbers : sides_finite (values_of r.dz) (values_of r.ds) (values_of r.z) (values_of r.s) ≡ true
  pub settings : (settings_finite (settings_of e r) && settings_ok (settings_of e r)) ≡ true

module _ (e : ℕ) (r : Record) (laid : Laid e r) where
  abbrev n : ℕ
  n = numel_of (cone_of r)

  abbrev vector : List ℕ → List Float
  vector ws = take n (padded 64 (values_of ws))

  abbrev point : List Float
  point = take n blank_point

  back : (ws : List ℕ) → length ws ≡ r.dim1 + r.dim2 → vector ws ≡ values_of ws
  back ws h = vector_back n ws (h ∙ sym (numel_laid e r laid))

  no_row : same_record e r ≡ true
      → NoFault (step_faults (cone_of r) (vector r.dz) (vector r.ds) (vector r.z) (vector r.s) (length point) (length point)
      (settings_of e r))
  unfolding same_record agrees_of rerun_of recorded_of step_length_of
  no_row h =
      no_fault _
      (let_through (λ (l : LentTwo Steps). l.answer.code) _ (refuse_steps point point) (λ k. refl) _ (compared _ (steps_of r) h).done)

  has : same_record e r ≡ true → Has e r
  unfolding step_faults
  has h =
      let f = no_row h in
      let numbers = not-false _ f.number in
      let vectors = sides_finite (vector r.dz) (vector r.ds) (vector r.z) (vector r.s) in
      record {
        cone = not-false _ f.cone;
        numbers =
            rw (← back r.dz laid.dz, ← back r.ds laid.ds, ← back r.z laid.z, ← back r.s laid.s)
            (and_left vectors (settings_finite (settings_of e r)) numbers);
        settings = and_both _ _ (and_right vectors (settings_finite (settings_of e r)) numbers) (not-false _ f.setting);
      }

  -- so one that lacks any of it is not the same
  lacks : (b : Bool) → (Has e r → b ≡ true) → b ≡ false → (same : Bool) → same_record e r ≡ same → same_record e r ≡ false
  lacks b needs off true on = absurd (false_not_true (sym off ∙ needs (has on)))
  lacks b needs off false on = on

pub refused_differs : RefusedDiffers
refused_differs e r laid = record {
  cone-refused = λ off. lacks e r laid _ (λ h. h.cone) off (same_record e r) refl;
  numbers-refused = λ off. lacks e r laid _ (λ h. h.numbers) off (same_record e r) refl;
  settings-refused = λ off. lacks e r laid _ (λ h. h.settings) off (same_record e r) refl;
}
