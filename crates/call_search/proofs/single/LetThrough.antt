-- A call that its rows let through meets what the search asks for: slices of one length, finite and good settings. Assumes nothing.
use mathlib.Core.Path.{◌≡◌, sym, ◌∙◌}
use mathlib.Core.Bool.{true, ◌||◌, ◌&&◌}
use mathlib.Core.List.{List}
use lib.Ieee.{Float}
use lib.ListN.{length}
use borrow.Author.Tests.{not-false}
use Rattle.arith.proofs.Branches.{or_left, or_right, and_left, and_right}
use Rattle.cone.specs.declared.Cone.{Cone}
use Rattle.cone.specs.declared.Settings.{Settings}
use Rattle.cone.specs.Codes.{numel_of}
use Rattle.judges.specs.Judges.{all_finite, sides_finite, settings_finite}
use Rattle.cone.proofs.table.Settled.{NoFault, no_fault}
use Rattle.judges.proofs.Lengths.{off, same_1, same_3, same_4}
use Rattle.search.specs.Problems.{Searchable}
use Rattle.call_search.specs.single.Rows.{search_faults, search_rows, step_faults, step_rows}

module _ (c : Cone) (dq q point : List Float) (s : Settings) (e : search_rows c dq q (length point) s ≡ 0) where
  no_fault_found : NoFault (search_faults c dq q (length point) s)
  no_fault_found = no_fault _ e

  finite_all : (all_finite dq && all_finite q && settings_finite s) ≡ true
  unfolding search_faults
  finite_all = not-false _ no_fault_found.number

  pub searchable : Searchable dq q s point
  unfolding search_faults
  searchable =
      let l = same_3 (numel_of c) (length dq) (length q) (length point) no_fault_found.length in
      record {
        dq_length = l.0 ∙ sym l.1;
        point-length = l.2 ∙ sym l.1;
        finite_settings = and_right (all_finite dq && all_finite q) (settings_finite s) finite_all;
        good-settings = not-false _ no_fault_found.setting;
      }

  pub finite_slices : (all_finite dq ≡ true) × (all_finite q ≡ true)
  finite_slices =
      let both = and_left (all_finite dq && all_finite q) (settings_finite s) finite_all in
      (and_left (all_finite dq) (all_finite q) both, and_right (all_finite dq) (all_finite q) both)

module _ (c : Cone) (dz ds z s dual primal : List Float) (settings : Settings)
    (e : step_rows c dz ds z s (length dual) (length primal) settings ≡ 0) where
  no_fault_in_step : NoFault (step_faults c dz ds z s (length dual) (length primal) settings)
  no_fault_in_step = no_fault _ e

  finite_step : (sides_finite dz ds z s && settings_finite settings) ≡ true
  unfolding step_faults
  finite_step = not-false _ no_fault_in_step.number

  pub both_searchable : Searchable dz z settings dual × Searchable ds s settings primal
  unfolding step_faults
  both_searchable =
      let n = numel_of c in
      let two = no_fault_in_step.length in
      let sides = off n (length dz) || off n (length ds) || off n (length z) || off n (length s) in
      let five = or_left (sides || off n (length dual)) (off n (length primal)) two in
      let l = same_4 n (length dz) (length ds) (length z) (length s) (or_left sides (off n (length dual)) five) in
      let d = same_1 n (length dual) (or_right sides (off n (length dual)) five) in
      let p = same_1 n (length primal) (or_right (sides || off n (length dual)) (off n (length primal)) two) in
      let f = and_right (sides_finite dz ds z s) (settings_finite settings) finite_step in
      let g = not-false _ no_fault_in_step.setting in (
        record { dq_length = l.0 ∙ sym l.2; point-length = d ∙ sym l.2; finite_settings = f; good-settings = g },
        record { dq_length = l.1 ∙ sym l.3; point-length = p ∙ sym l.3; finite_settings = f; good-settings = g },
      )

  pub finite_sides : (all_finite dz ≡ true) × (all_finite ds ≡ true) × (all_finite z ≡ true) × (all_finite s ≡ true)
  finite_sides =
      let four = and_left (sides_finite dz ds z s) (settings_finite settings) finite_step in
      let three = and_left (all_finite dz && all_finite ds && all_finite z) (all_finite s) four in
      let two = and_left (all_finite dz && all_finite ds) (all_finite z) three in (
        and_left (all_finite dz) (all_finite ds) two,
        and_right (all_finite dz) (all_finite ds) two,
        and_right (all_finite dz && all_finite ds) (all_finite z) three,
        and_right (all_finite dz && all_finite ds && all_finite z) (all_finite s) four,
      )
