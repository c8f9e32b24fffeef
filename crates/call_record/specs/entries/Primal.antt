-- 02, Order 4: "Both primal answers then use only the record's cone; 3 still judges the rest. Refusals: 5 is no longer given for these two
-- or the combined barrier." Statements only, of the entries' definitions; proofs/entries/Primal shows them, and the first three of the
-- functions' contracts too.
use Rattle.std.specs.Prelude.{◌≡◌, true, List, Float}
use Rattle.cone.specs.declared.Scaling.{Scaling}
use Rattle.judges.specs.Judges.{record_finite}
use Rattle.call_record.specs.entries.Entries.{gradient_primal_of, barrier_primal_of, compute_barrier_of}

-- two records with the same cone whose used numbers are finite; one may be fresh, and they may have been scaled at other points
pub record Alike (r r' : Scaling) : Type 0 where
  pub cone : r.cone ≡ r'.cone
  pub finite : record_finite r ≡ true
  pub finite' : record_finite r' ≡ true

-- the same number and count, and the same gradient written
abbrev pub GradientByCone : Type 0
GradientByCone = (r r' : Scaling) → Alike r r' → (g s : List Float) → gradient_primal_of r g s ≡ gradient_primal_of r' g s

abbrev pub BarrierByCone : Type 0
BarrierByCone = (r r' : Scaling) → Alike r r' → (s : List Float) → barrier_primal_of r s ≡ barrier_primal_of r' s

abbrev pub ComputeByCone : Type 0
ComputeByCone =
    (r r' : Scaling) → Alike r r' → (z s dz ds : List Float) (step : Float)
    → compute_barrier_of r z s dz ds step ≡ compute_barrier_of r' z s dz ds step

-- whatever the record and the points
abbrev pub GradientNeverFive : Type 0
GradientNeverFive = (r : Scaling) (g s : List Float) → (gradient_primal_of r g s).answer.code ≡ 5 → ⊥

abbrev pub BarrierNeverFive : Type 0
BarrierNeverFive = (r : Scaling) (s : List Float) → (barrier_primal_of r s).code ≡ 5 → ⊥

abbrev pub ComputeNeverFive : Type 0
ComputeNeverFive = (r : Scaling) (z s dz ds : List Float) (step : Float) → (compute_barrier_of r z s dz ds step).code ≡ 5 → ⊥
