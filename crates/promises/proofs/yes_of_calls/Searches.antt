-- Order 12 of the searches: a search hands back the step +0, or the point of its step, and that point has passed. It is a rounded sum in
-- each place. Assumes nothing.
use mathlib.Core.Path.{◌≡◌, refl, sym, ap, ◌∙◌, subst}
use mathlib.Core.Bool.{Bool, true, false, ◌||◌}
use mathlib.Core.List.{List, [], ◌∷◌}
use Prim.Native.Nat.{ℕ, zero, suc}
use lib.Dec.{T}
use lib.Ieee.{Float, binary64, fits}
use lib.Ieee.Fits.{add-fits, nan-fits}
use lib.ListN.{length}
use borrow.Author.Tests.{not-false}
use Rattle.arith.proofs.Branches.{false_not_true, or_left}
use Rattle.double.specs.Operators.{◌⊗◌, at}
use Rattle.double.specs.Numbers.{#0}
use Rattle.algebra.specs.Vectors.{moved_of}
use Rattle.cone.specs.declared.verdict.Answer.{Answer}
use Rattle.cone.specs.declared.verdict.Answer.TheVariants.{No, Yes, Undecided}
use Rattle.cone.specs.verdict.Answers.{is_yes}
use Rattle.cone.specs.declared.Cone.{Cone}
use Rattle.cone.specs.declared.Settings.{Settings}
use Rattle.cone.specs.Codes.{numel_of}
use Rattle.cone.specs.table.Table.{settle}
use Rattle.cone.proofs.table.Settled.{no_fault}
use Rattle.judges.specs.Judges.{cone_ok}
use Rattle.judges.proofs.Lengths.{off, same_3, same_4}
use Rattle.search.specs.trials.Trials.{bound}
use Rattle.search.specs.trials.Search.{Problem, Outcome, passes_at, cut_after, scan, search_of}
use Rattle.kinds.specs.Answers.{answer_of}
use Rattle.kinds.specs.Passes.{passes_in}
use Rattle.search.specs.Points.{trial_point}
use Rattle.search.proofs.Points.{length-point}
use Rattle.search.specs.Problems.{problem_of}
use Rattle.call_search.specs.single.Rows.{search_faults, search_rows, step_faults, step_rows}
use Rattle.call_search.specs.single.Entries.{found, refuse_found, both_found, refuse_steps, backtrack_search_of, step_length_of}
use Rattle.promises.specs.yes_of_calls.Points.{AllDoubles, Held}
use Rattle.promises.specs.yes_of_calls.Searches.{StepCertain, SearchCertain, BothCertain, StepLengthCertain}
use Rattle.promises.proofs.yes_of_calls.Accepted.{Accepted}
use Rattle.promises.proofs.yes_of_calls.Tests.{yes_inside}

-- ---- any search, whatever its test and settings

-- the point that is handed back is that of the step, and has passed
pub record Passed (P : Problem) (o : Outcome) : Type 0 where
  pub is : o.point ≡ P.point_at o.step
  pub passes : P.test o.point ≡ true

passed_or_zero : (P : Problem) (f : ℕ) (passes cut : Bool) (α : Float) (n : ℕ) → passes_at P α ≡ passes
    → ((scan P f passes cut α n).step ≡ #0 → ⊥) → Passed P (scan P f passes cut α n)
unfolding scan
passed_or_zero P zero true cut α n e h = record { is = refl; passes = e }
passed_or_zero P zero false cut α n e h = absurd (h refl)
passed_or_zero P (suc f) true cut α n e h = record { is = refl; passes = e }
passed_or_zero P (suc f) false true α n e h = absurd (h refl)
passed_or_zero P (suc f) false false α n e h =
    let β = α ⊗ P.how.step in passed_or_zero P f (passes_at P β) (cut_after P β) β (suc n) refl h

pub searched : (P : Problem) → ((search_of P).step ≡ #0 → ⊥) → Passed P (search_of P)
unfolding search_of scan
searched P h = let α = P.how.start in passed_or_zero P (bound P.how) (passes_at P α) (cut_after P α) α 0 refl h

-- ---- the point of a trial

place_double : (q : List Float) (α : Float) (dq : List Float) (i : ℕ) → T (fits binary64 (at (moved_of q α dq) i))
unfolding moved_of
place_double [] α dq i = nan-fits binary64
place_double (x ∷ q) α [] i = nan-fits binary64
place_double (x ∷ q) α (d ∷ dq) zero = add-fits binary64 x (α ⊗ d)
place_double (x ∷ q) α (d ∷ dq) (suc i) = place_double q α dq i

-- a point that is a trial's has doubles
pub trial_doubles : (q : List Float) (α : Float) (dq p : List Float) → p ≡ trial_point q dq α → AllDoubles p
trial_doubles q α dq p e i l = subst (λ (x : List Float). T (fits binary64 (at x i))) (sym e) (place_double q α dq i)

-- ---- a cone of any kind

pub yes_of : (a : Answer) → is_yes a ≡ true → a ≡ Yes
yes_of No e = absurd (false_not_true e)
yes_of Yes e = refl
yes_of Undecided e = absurd (false_not_true e)

module _ (c : Cone) (held : Held c) (ok : cone_ok c ≡ true) where
  step_certain : (primal : Bool) (dq q : List Float) (s : Settings) → length dq ≡ numel_of c → length q ≡ numel_of c
      → let o = search_of (problem_of c primal dq q s) in
      StepCertain c primal o.step o.point
  unfolding passes_in
  step_certain primal dq q s same long h r =
      let o = search_of (problem_of c primal dq q s) in
      let t = searched (problem_of c primal dq q s) h in
      let accepted : Accepted c o.point =
      record {
        held = held;
        ok = ok;
        long = ap length t.is ∙ length-point q dq o.step (same ∙ sym long) ∙ long;
        doubles = trial_doubles q o.step dq o.point t.is;
        sizes = r;
      } in
      yes_inside c o.point accepted primal (yes_of (answer_of c primal o.point) t.passes)

-- ---- the entries: k is the number of the call's rows

module _ (c : Cone) (dq q point : List Float) (s : Settings) (e : search_rows c dq q (length point) s ≡ 0) where
  search_ok : cone_ok c ≡ true
  unfolding search_faults
  search_ok = not-false _ (no_fault (search_faults c dq q (length point) s) e).cone

  search_long : (length dq ≡ numel_of c) × (length q ≡ numel_of c)
  unfolding search_faults
  search_long =
      let l = same_3 (numel_of c) (length dq) (length q) (length point) (no_fault (search_faults c dq q (length point) s) e).length in
      (l.0, l.1)

pub search_certain : SearchCertain
unfolding backtrack_search_of settle
search_certain c held primal dq q point s = go (search_rows c dq q (length point) s) refl
  where
    go :
        (k : ℕ) → search_rows c dq q (length point) s ≡ k
        → let l = settle k (found (search_of (problem_of c primal dq q s))) (refuse_found point) in StepCertain c primal l.answer.step
        l.slice
    go zero e =
        let long = search_long c dq q point s e in step_certain c held (search_ok c dq q point s e) primal dq q s long.0 long.1
    go (suc k) e = λ h r. absurd (h refl)

module _ (c : Cone) (dz ds z s dual primal : List Float) (settings : Settings)
    (e : step_rows c dz ds z s (length dual) (length primal) settings ≡ 0) where
  step_ok : cone_ok c ≡ true
  unfolding step_faults
  step_ok = not-false _ (no_fault (step_faults c dz ds z s (length dual) (length primal) settings) e).cone

  step_long : (length dz ≡ numel_of c) × (length ds ≡ numel_of c) × (length z ≡ numel_of c) × (length s ≡ numel_of c)
  unfolding step_faults
  step_long =
      let n = numel_of c in
      let six = (no_fault (step_faults c dz ds z s (length dual) (length primal) settings) e).length in
      let sides = off n (length dz) || off n (length ds) || off n (length z) || off n (length s) in
      let four = or_left sides (off n (length dual)) (or_left (sides || off n (length dual)) (off n (length primal)) six) in
      same_4 n (length dz) (length ds) (length z) (length s) four

pub step_length_certain : StepLengthCertain
unfolding step_length_of settle
step_length_certain c held dz ds z s dual_point primal_point settings =
    go (step_rows c dz ds z s (length dual_point) (length primal_point) settings) refl
  where
    go : (k : ℕ) → step_rows c dz ds z s (length dual_point) (length primal_point) settings ≡ k
        → BothCertain c (settle k (both_found (search_of (problem_of c false dz z settings)) (search_of (problem_of c true ds s settings)))
        (refuse_steps dual_point primal_point))
    go zero e =
        let ok = step_ok c dz ds z s dual_point primal_point settings e in
        let long = step_long c dz ds z s dual_point primal_point settings e in
        record {
          dual_side = step_certain c held ok false dz z settings long.0 long.2;
          primal_side = step_certain c held ok true ds s settings long.1 long.3;
        }
    go (suc k) e = record { dual_side = λ h r. absurd (h refl); primal_side = λ h r. absurd (h refl) }
