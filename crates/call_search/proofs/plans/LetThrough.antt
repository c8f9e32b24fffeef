-- A call that its rows let through meets what the plan's search asks for: 1 to 1,024 cones, slices of the cones' length together, finite
-- and good settings. What the rows of both sides let through, those of each side do. Assumes nothing.
use mathlib.Core.Path.{◌≡◌, sym, ◌∙◌}
use mathlib.Core.Bool.{true, false, ◌&&◌, ◌||◌}
use mathlib.Core.List.{List}
use Prim.Native.Nat.{ℕ}
use lib.Ieee.{Float}
use lib.ListN.{length}
use borrow.Author.Tests.{not-false}
use Rattle.arith.proofs.Branches.{and_left, and_right, or_left, or_right}
use Rattle.cone.specs.declared.Cone.{Cone}
use Rattle.cone.specs.declared.Settings.{Settings}
use Rattle.judges.specs.Judges.{all_finite, sides_finite, settings_finite}
use Rattle.cone.specs.table.Table.{first_row}
use Rattle.cone.proofs.table.Settled.{NoFault, no_fault}
use Rattle.judges.proofs.Lengths.{off, same_3}
use Rattle.search.specs.plan.Plans.{plan_ok, total_of, Plannable}
use Rattle.search.proofs.plan.Plans.{plan-some, plan_few}
use Rattle.call_search.specs.plans.Rows.{plan_faults, plan_rows, sides_faults, sides_rows}

-- a bad plan is refused by row 1, whatever else is wrong
pub bad-plan : (cs : List Cone) (dq q : List Float) (point : ℕ) (s : Settings) → plan_ok cs ≡ false → 1 ≡ plan_rows cs dq q point s
unfolding first_row plan_faults
bad-plan cs dq q point s e = sym (simp e)

module _ (cs : List Cone) (dq q point : List Float) (s : Settings) (e : plan_rows cs dq q (length point) s ≡ 0) where
  no_fault_found : NoFault (plan_faults cs dq q (length point) s)
  no_fault_found = no_fault _ e

  good-plan : plan_ok cs ≡ true
  unfolding plan_faults
  good-plan = not-false _ no_fault_found.cone

  finite_all : (all_finite dq && all_finite q && settings_finite s) ≡ true
  unfolding plan_faults
  finite_all = not-false _ no_fault_found.number

  pub plannable : Plannable cs dq q s point
  unfolding plan_faults
  plannable =
      let l = same_3 (total_of cs) (length dq) (length q) (length point) no_fault_found.length in
      record {
        some-cones = plan-some cs good-plan;
        few_cones = plan_few cs good-plan;
        lengths_add_up = sym l.1;
        searchable = record {
          dq_length = l.0 ∙ sym l.1;
          point-length = l.2 ∙ sym l.1;
          finite_settings = and_right (all_finite dq && all_finite q) (settings_finite s) finite_all;
          good-settings = not-false _ no_fault_found.setting;
        };
      }

  pub finite_slices : (all_finite dq ≡ true) × (all_finite q ≡ true)
  finite_slices =
      let both = and_left (all_finite dq && all_finite q) (settings_finite s) finite_all in
      (and_left (all_finite dq) (all_finite q) both, and_right (all_finite dq) (all_finite q) both)

-- ---- both sides

pub bad_sides : (cs : List Cone) (dz ds z s : List Float) (dual primal : ℕ) (settings : Settings) → plan_ok cs ≡ false
    → 1 ≡ sides_rows cs dz ds z s dual primal settings
unfolding first_row sides_faults
bad_sides cs dz ds z s dual primal settings e = sym (simp e)

module _ (cs : List Cone) (dz ds z s dual primal : List Float) (settings : Settings)
    (e : sides_rows cs dz ds z s (length dual) (length primal) settings ≡ 0) where
  no_fault_on_sides : NoFault (sides_faults cs dz ds z s (length dual) (length primal) settings)
  no_fault_on_sides = no_fault _ e

  pub each_side : (plan_rows cs dz z (length dual) settings ≡ 0) × (plan_rows cs ds s (length primal) settings ≡ 0)
  unfolding sides_faults first_row plan_faults
  each_side =
      let n = total_of cs in
      let two = off n (length dz) || off n (length ds) in
      let four = two || off n (length z) || off n (length s) in
      let lengths = no_fault_on_sides.length in
      let none_of_five = or_left (four || off n (length dual)) (off n (length primal)) lengths in
      let none_of_four = or_left four (off n (length dual)) none_of_five in
      let none_of_three = or_left (two || off n (length z)) (off n (length s)) none_of_four in
      let none_of_two = or_left two (off n (length z)) none_of_three in
      let finite_all = not-false _ no_fault_on_sides.number in
      let finite_four = and_left (sides_finite dz ds z s) (settings_finite settings) finite_all in
      let finite_three = and_left (all_finite dz && all_finite ds && all_finite z) (all_finite s) finite_four in
      let finite_two = and_left (all_finite dz && all_finite ds) (all_finite z) finite_three in
      let finite_settings = and_right (sides_finite dz ds z s) (settings_finite settings) finite_all in (
        simp (
          no_fault_on_sides.cone,
          or_left (off n (length dz)) (off n (length ds)) none_of_two,
          or_right two (off n (length z)) none_of_three,
          or_right four (off n (length dual)) none_of_five,
          and_left (all_finite dz) (all_finite ds) finite_two,
          and_right (all_finite dz && all_finite ds) (all_finite z) finite_three,
          finite_settings,
          no_fault_on_sides.setting,
        ),
        simp (
          no_fault_on_sides.cone,
          or_right (off n (length dz)) (off n (length ds)) none_of_two,
          or_right (two || off n (length z)) (off n (length s)) none_of_four,
          or_right (four || off n (length dual)) (off n (length primal)) lengths,
          and_right (all_finite dz) (all_finite ds) finite_two,
          and_right (all_finite dz && all_finite ds && all_finite z) (all_finite s) finite_four,
          finite_settings,
          no_fault_on_sides.setting,
        ),
      )

  pub both_plannable : Plannable cs dz z settings dual × Plannable cs ds s settings primal
  both_plannable = (plannable cs dz z dual settings each_side.0, plannable cs ds s primal settings each_side.1)
