-- What the test of a plan's point says of each of its cones. Definitions and the statements only; proofs/plan/EachCone shows them.
use Rattle.std.specs.Prelude.{ℕ, zero, suc, ◌<◌, ◌≡◌, Bool, true, false, List, [], ◌∷◌, length, take, drop, get_or, Float}
use Rattle.cone.specs.declared.Cone.{Cone}
use Rattle.cone.specs.Codes.{numel_of}
use Rattle.cone.specs.Fresh.{empty_cone}
use Rattle.search.specs.Points.{trial_point}
use Rattle.search.specs.plan.Plans.{cone_passes, all_pass, tests_of}

-- cone i of the list, counted from 0
abbrev pub cone_at : List Cone → ℕ → Cone
cone_at cs i = get_or cs i empty_cone

-- its part of a point
unfoldable pub part_of : List Cone → ℕ → List Float → List Float
part_of [] i p = []
part_of (c ∷ cs) zero p = take (numel_of c) p
part_of (c ∷ cs) (suc i) p = part_of cs i (drop (numel_of c) p)

-- whether cone i passes on its part
abbrev pub part_passes : List Cone → Bool → List Float → ℕ → Bool
part_passes cs primal p i = cone_passes (cone_at cs i) primal (part_of cs i p)

-- cone i is the first that fails
pub record FirstFailing (cs : List Cone) (primal : Bool) (p : List Float) (i : ℕ) : Type 0 where
  pub in_list : i < length cs
  pub fails : part_passes cs primal p i ≡ false
  pub passed_before : (j : ℕ) → j < i → part_passes cs primal p j ≡ true

pub record TestedInOrder (cs : List Cone) (primal : Bool) (p : List Float) : Type 0 where
  -- 02, Order 10: "at which every cone's point passes"
  pub all_if_each : ((i : ℕ) → i < length cs → part_passes cs primal p i ≡ true) → all_pass cs primal p ≡ true
  pub each_if_all : all_pass cs primal p ≡ true → (i : ℕ) → i < length cs → part_passes cs primal p i ≡ true
  -- 02, Order 10: "Cones are tested in list order, and a trial ends at its first failing cone": its position, from 1, is the number of
  -- tests
  pub tests_of_all : all_pass cs primal p ≡ true → tests_of cs primal p ≡ length cs
  pub tests_to_first : (i : ℕ) → FirstFailing cs primal p i → tests_of cs primal p ≡ suc i

-- each cone is tested on what a search of it alone would test: the trial's point of its own parts
abbrev pub PartsOfTrials : Type 0
PartsOfTrials =
    (cs : List Cone) (i : ℕ) (q dq : List Float) (α : Float) → length dq ≡ length q
    → part_of cs i (trial_point q dq α) ≡ trial_point (part_of cs i q) (part_of cs i dq) α
