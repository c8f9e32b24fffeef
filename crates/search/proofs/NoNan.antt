-- What a search hands back holds no NaN: its step is a trial or +0, and its point, where q and dq are finite, may overflow and then holds
-- infinities. Assumes nothing.
use mathlib.Core.Path.{◌≡◌, refl, ap, ◌∙◌}
use mathlib.Core.Bool.{Bool, true, not}
use mathlib.Core.List.{List, [], ◌∷◌}
use lib.Dec.{T}
use lib.Ieee.{Float, nan, inf, fin, binary64, is_nan, of_bits}
use lib.Ieee.Bits.{is_true}
use lib.Ieee.Scale.{finite}
use lib.Ieee.Positive.{positive-finite}
use Rattle.arith.proofs.Branches.{and_left, and_right, and_both}
use Rattle.rounding.proofs.Overflow.{mul-number, add-number}
use Rattle.double.specs.Operators.{◌⊕◌, ◌⊗◌}
use Rattle.double.specs.Numbers.{#0}
use Rattle.algebra.specs.Vectors.{moved_of}
use Rattle.cone.specs.declared.Settings.{Settings}
use Rattle.judges.specs.Judges.{all_of, all_finite}
use Rattle.search.specs.trials.Trials.{Usable}
use Rattle.search.specs.trials.Search.{Problem, Outcome, search_of}
use Rattle.search.specs.Points.{trial_point, all_numbers}
use Rattle.search.proofs.trials.Trials.{trial_positive}
use Rattle.search.proofs.trials.Walk.{trial_of, Ended, passed, failed, ended}
use Rattle.search.proofs.Settings.{of_true}

finite_number : (x : Float) → finite x ≡ true → not (is_nan x) ≡ true
unfolding is_nan
finite_number nan e = e
finite_number (inf s) e = refl
finite_number (fin s m k) e = refl

pub finite_numbers : (q : List Float) → all_finite q ≡ true → all_numbers q ≡ true
unfolding all_of
finite_numbers [] f = refl
finite_numbers (x ∷ q) f =
    and_both _ _ (finite_number x (and_left (finite x) (all_finite q) f)) (finite_numbers q (and_right (finite x) (all_finite q) f))

pub point-numbers : (q dq : List Float) (α : Float) → all_finite q ≡ true → all_finite dq ≡ true → T (finite α)
    → all_numbers (trial_point q dq α) ≡ true
unfolding all_of moved_of
point-numbers [] dq α f g h = refl
point-numbers (x ∷ q) [] α f g h = refl
point-numbers (x ∷ q) (d ∷ dq) α f g h =
    let product = mul-number binary64 α d h (of_true (finite d) (and_left (finite d) (all_finite dq) g)) in
    let place = add-number binary64 x (α ⊗ d) (of_true (finite x) (and_left (finite x) (all_finite q) f)) product in
    let rest = point-numbers q dq α (and_right (finite x) (all_finite q) f) (and_right (finite d) (all_finite dq) g) h in
    and_both _ _ (is_true (not (is_nan (x ⊕ α ⊗ d))) place) rest

zero_number : not (is_nan #0) ≡ true
unfolding is_nan of_bits
zero_number = refl

pub searched_step : (P : Problem) → Usable P.how → not (is_nan (search_of P).step) ≡ true
searched_step P ok = go (ended P ok)
  where
    go : Ended P → not (is_nan (search_of P).step) ≡ true
    go (passed n r p e) =
        let finite_trial = positive-finite (trial_of P n) (trial_positive P.how ok n r.allowed) in
        ap (λ (o : Outcome). not (is_nan o.step)) e ∙ finite_number (trial_of P n) (is_true (finite (trial_of P n)) finite_trial)
    go (failed n r p k e) = ap (λ (o : Outcome). not (is_nan o.step)) e ∙ zero_number

-- whatever the test of a point is
pub searched-numbers : (test : List Float → Bool) (dq q : List Float) (how : Settings) → Usable how
    → all_finite dq ≡ true → all_finite q ≡ true
    → all_numbers (search_of (record { test = test; point_at = λ (α : Float). trial_point q dq α; q = q; how = how })).point ≡ true
searched-numbers test dq q how ok g f = go (ended P ok)
  where
    P : Problem
    P = record { test = test; point_at = λ (α : Float). trial_point q dq α; q = q; how = how }

    go : Ended P → all_numbers (search_of P).point ≡ true
    go (passed n r p e) =
        let finite_trial = positive-finite (trial_of P n) (trial_positive how ok n r.allowed) in
        ap (λ (o : Outcome). all_numbers o.point) e ∙ point-numbers q dq (trial_of P n) f g finite_trial
    go (failed n r p k e) = ap (λ (o : Outcome). all_numbers o.point) e ∙ finite_numbers q f
