-- What can be wrong with a search's arguments, a row of the table each, whether it is over one cone or a plan. Definitions only.
use Rattle.std.specs.Prelude.{ℕ, ◌||◌, ◌&&◌, Bool, not, List, eqb, Float}
use Rattle.cone.specs.declared.Settings.{Settings}
use Rattle.cone.specs.declared.table.Faults.{Faults}
use Rattle.judges.specs.Judges.{all_finite, sides_finite, settings_finite}
use Rattle.cone.specs.table.Table.{setting_faults}
use Rattle.judges.specs.Refusals.{other_length, bad_settings}

-- 01: "A slice that is only written is judged by its length alone": `point`, `dualPoint` and `primalPoint` are such lengths.
-- 01: "Feasibility and step search take a cone and no record": none is unscaled, none has a serial. A point has n numbers.
abbrev pub side_faults : Bool → ℕ → List Float → List Float → ℕ → Settings → Faults
side_faults bad n dq q point s =
    setting_faults bad
    (other_length n dq || other_length n q || not (eqb point n))
    (not (all_finite dq && all_finite q && settings_finite s))
    (bad_settings s)

-- both sides: what is wrong on one of them refuses both
abbrev pub both_faults : Bool → ℕ → List Float → List Float → List Float → List Float → ℕ → ℕ → Settings → Faults
both_faults bad n dz ds z s dual_point primal_point settings =
    setting_faults bad
    (other_length n dz || other_length n ds || other_length n z || other_length n s || not (eqb dual_point n) || not (eqb primal_point n))
    (not (sides_finite dz ds z s && settings_finite settings))
    (bad_settings settings)
