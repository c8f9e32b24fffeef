-- A plan judged and its point tested, cone by cone: the cones of a list of words from a place on, how many numbers they have, how many
-- tests there are and where they end. `PassedTo` is the invariant of the loop that tests. Assumes nothing.
use mathlib.Core.Path.{◌≡◌, refl, sym, ap, ◌∙◌, subst}
use mathlib.Core.Bool.{Bool, true, false, cond, ◌&&◌, and_assoc, and-true}
use mathlib.Core.List.{List, [], ◌∷◌}
use Prim.Native.Nat.{ℕ, zero, suc, ◌+◌, ◌*◌, ◌≤◌, ◌<◌}
use native.Mathlib.Nat.{le_of_suc-le-suc, not-suc-le-zero}
use native.Mathlib.Numerals.{add-one}
use native.Mathlib.Omega.{arith}
use lib.Dec.{leb}
use lib.ListN.{length, take, drop, get_or, drop_of_length-le, length-map}
use lib.Seq.{drop-drop}
use lib.Ieee.{Float}
use borrow.Author.Tests.{leb-true}
use Rattle.arith.proofs.Branches.{and_left, and_right}
use Rattle.cone.specs.declared.Cone.{Cone}
use Rattle.cone.specs.Codes.{numel_of}
use Rattle.judges.specs.Judges.{cone_ok}
use Rattle.judges.proofs.Lengths.{numel_at_most}
use Rattle.cone.specs.words.Words.{cone_of_words, cones_of}
use Rattle.search.specs.declared.trials.Tested.{Tested}
use Rattle.search.specs.plan.Plans.{total_of, all_cones_ok, most_cones, plan_ok, cone_passes, all_pass, tests_of, tested_of}

-- ---- the list of words, from place i on; z stands for a cone that is not there

cones-from : (ws : List (List ℕ)) (i : ℕ) (z : List ℕ) → i < length ws
    → drop i (cones_of ws) ≡ cone_of_words (get_or ws i z) ∷ drop (i + 1) (cones_of ws)
cones-from ws i z h = go ws i h ∙ ap (λ (k : ℕ). cone_of_words (get_or ws i z) ∷ drop k (cones_of ws)) (sym (add-one i))
  where
    go : (ws : List (List ℕ)) (i : ℕ) → i < length ws → drop i (cones_of ws) ≡ cone_of_words (get_or ws i z) ∷ drop (suc i) (cones_of ws)
    go [] i h = absurd (not-suc-le-zero h)
    go (w ∷ ws) zero h = refl
    go (w ∷ ws) (suc i) h = go ws i (le_of_suc-le-suc h)

cones_end : (ws : List (List ℕ)) (i : ℕ) → length ws ≤ i → drop i (cones_of ws) ≡ []
cones_end ws i h =
    drop_of_length-le (cones_of ws) {i = i} (subst (λ (k : ℕ). k ≤ i) (sym (length-map ws cone_of_words)) h)

-- ---- the plan, judged

total-next : (c : Cone) (cs : List Cone) → total_of (c ∷ cs) ≡ numel_of c + total_of cs
unfolding total_of
total-next c cs = refl

total-none : total_of [] ≡ 0
unfolding total_of
total-none = refl

cones_ok_next : (c : Cone) (cs : List Cone) → all_cones_ok (c ∷ cs) ≡ (cone_ok c && all_cones_ok cs)
unfolding all_cones_ok
cones_ok_next c cs = refl

cones_ok_none : all_cones_ok [] ≡ true
unfolding all_cones_ok
cones_ok_none = refl

-- good cones have at most 64 numbers each
total-most : (cs : List Cone) → all_cones_ok cs ≡ true → total_of cs ≤ 64 * length cs
unfolding all_cones_ok total_of
total-most [] e = omega arith
total-most (c ∷ cs) e =
    let a = numel_at_most c (and_left (cone_ok c) (all_cones_ok cs) e) in
    let b = total-most cs (and_right (cone_ok c) (all_cones_ok cs) e) in
    go (numel_of c) (total_of cs) (length cs) a b
  where
    go : (a t n : ℕ) → a ≤ 64 → t ≤ 64 * n → a + t ≤ 64 * suc n
    go a t n h k = omega arith

abbrev listed : ℕ → Bool
listed n = leb 1 n && leb n most_cones

module _ (cs : List Cone) (e : plan_ok cs ≡ true) where
  plan-listed : listed (length cs) ≡ true
  unfolding plan_ok
  plan-listed = and_left (listed (length cs)) (all_cones_ok cs) e

  pub plan-some : 1 ≤ length cs
  plan-some = leb-true 1 (length cs) (and_left (leb 1 (length cs)) (leb (length cs) most_cones) plan-listed)

  pub plan_few : length cs ≤ most_cones
  plan_few = leb-true (length cs) most_cones (and_right (leb 1 (length cs)) (leb (length cs) most_cones) plan-listed)

  pub plan-total : total_of cs ≤ 65536
  unfolding plan_ok
  plan-total = go (length cs) (total_of cs) plan_few (total-most cs (and_right (listed (length cs)) (all_cones_ok cs) e))
    where
      go : (n t : ℕ) → n ≤ 1024 → t ≤ 64 * n → t ≤ 65536
      go n t h k = omega arith

module _ (ws : List (List ℕ)) where
  begins : plan_ok (cones_of ws) ≡ (listed (length ws) && all_cones_ok (cones_of ws))
  unfolding plan_ok
  begins = ap (λ (n : ℕ). listed n && all_cones_ok (cones_of ws)) (length-map ws cone_of_words)

  -- a list that is too short or too long is bad, and of another each cone is judged
  pub unlisted : listed (length ws) ≡ false → false ≡ plan_ok (cones_of ws)
  unlisted e = sym (begins ∙ ap (λ (b : Bool). b && all_cones_ok (cones_of ws)) e)

  pub ok_begins : listed (length ws) ≡ true → plan_ok (cones_of ws) ≡ (true && all_cones_ok (cones_of ws))
  ok_begins e = begins ∙ ap (λ (b : Bool). b && all_cones_ok (cones_of ws)) e

  module _ (i : ℕ) where
    abbrev left : List Cone
    left = drop i (cones_of ws)

    abbrev next : List ℕ → Cone
    next z = cone_of_words (get_or ws i z)

    pub ok_next : (all : Bool) (z : List ℕ) → i < length ws
        → (all && all_cones_ok left) ≡ (all && cone_ok (next z) && all_cones_ok (drop (i + 1) (cones_of ws)))
    ok_next all z h =
        ap (λ (cs : List Cone). all && all_cones_ok cs) (cones-from ws i z h)
        ∙ ap (λ (b : Bool). all && b) (cones_ok_next (next z) (drop (i + 1) (cones_of ws)))
        ∙ sym (and_assoc all (cone_ok (next z)) (all_cones_ok (drop (i + 1) (cones_of ws))))

    pub ok_end : (all : Bool) → length ws ≤ i → (all && all_cones_ok left) ≡ all
    ok_end all h =
        ap (λ (cs : List Cone). all && all_cones_ok cs) (cones_end ws i h) ∙ ap (λ (b : Bool). all && b) cones_ok_none ∙ and-true all

    pub total-from : (z : List ℕ) → i < length ws → total_of left ≡ numel_of (next z) + total_of (drop (i + 1) (cones_of ws))
    total-from z h = ap total_of (cones-from ws i z h) ∙ total-next (next z) (drop (i + 1) (cones_of ws))

    pub total_end : length ws ≤ i → total_of left ≡ 0
    total_end h = ap total_of (cones_end ws i h) ∙ total-none

-- ---- the test of a point

-- one cone more was tested
module _ (c : Cone) (cs : List Cone) (primal : Bool) (p : List Float) where
  abbrev passes-first : Bool
  passes-first = cone_passes c primal (take (numel_of c) p)

  abbrev rest : List Float
  rest = drop (numel_of c) p

  pub pass_on : passes-first ≡ true → all_pass (c ∷ cs) primal p ≡ all_pass cs primal rest
  unfolding all_pass
  pass_on e = ap (λ (b : Bool). cond b (all_pass cs primal rest) false) e

  pub pass_ends : passes-first ≡ false → all_pass (c ∷ cs) primal p ≡ false
  unfolding all_pass
  pass_ends e = ap (λ (b : Bool). cond b (all_pass cs primal rest) false) e

  pub tests_end : passes-first ≡ false → tests_of (c ∷ cs) primal p ≡ 1
  unfolding tests_of
  tests_end e = ap (λ (b : Bool). suc (cond b (tests_of cs primal rest) 0)) e

  pub tests_on : passes-first ≡ true → tests_of (c ∷ cs) primal p ≡ suc (tests_of cs primal rest)
  unfolding tests_of
  tests_on e = ap (λ (b : Bool). suc (cond b (tests_of cs primal rest) 0)) e

pass_none : (primal : Bool) (p : List Float) → all_pass [] primal p ≡ true
unfolding all_pass
pass_none primal p = refl

tests_none : (primal : Bool) (p : List Float) → tests_of [] primal p ≡ 0
unfolding tests_of
tests_none primal p = refl

-- a test at least, and one for each cone at most
module _ (c : Cone) (cs : List Cone) (primal : Bool) (p : List Float) where
  tests_between : tests_of cs primal (drop (numel_of c) p) ≤ length cs
      → (1 ≤ tests_of (c ∷ cs) primal p) × (tests_of (c ∷ cs) primal p ≤ suc (length cs))
  tests_between h = go (cone_passes c primal (take (numel_of c) p)) refl
    where
      go : (b : Bool) → cone_passes c primal (take (numel_of c) p) ≡ b
          → (1 ≤ tests_of (c ∷ cs) primal p) × (tests_of (c ∷ cs) primal p ≤ suc (length cs))
      go true e = let on = tests_on c cs primal p e in (omega (arith, on), omega (arith, on, h))
      go false e = let end = tests_end c cs primal p e in (omega (arith, end), omega (arith, end))

pub tests_most : (cs : List Cone) (primal : Bool) (p : List Float) → tests_of cs primal p ≤ length cs
tests_most [] primal p = omega (arith, tests_none primal p)
tests_most (c ∷ cs) primal p = (tests_between c cs primal p (tests_most cs primal (drop (numel_of c) p))).1

pub tests_some : (cs : List Cone) (primal : Bool) (p : List Float) → 1 ≤ length cs → 1 ≤ tests_of cs primal p
tests_some [] primal p h = absurd (not-suc-le-zero h)
tests_some (c ∷ cs) primal p h = (tests_between c cs primal p (tests_most cs primal (drop (numel_of c) p))).0

-- both parts of what the code hands back
tested-is : (cs : List Cone) (primal : Bool) (p : List Float) (b : Bool) (n : ℕ) → all_pass cs primal p ≡ b → tests_of cs primal p ≡ n
    → record { all = b; count = n } ≡ tested_of cs primal p
tested-is cs primal p b n e f = ap (λ (x : Bool). pair x n) (sym e) ∙ ap (pair (all_pass cs primal p)) (sym f)
  where
    pair : Bool → ℕ → Tested
    pair x k = record { all = x; count = k }

-- the first i cones passed, on the first `at` numbers
pub record PassedTo (ws : List (List ℕ)) (primal : Bool) (p : List Float) (at i : ℕ) : Type 0 where
  pub upto : i ≤ length ws
  pub lengths : at + total_of (drop i (cones_of ws)) ≡ length p
  pub pass_rest : all_pass (cones_of ws) primal p ≡ all_pass (drop i (cones_of ws)) primal (drop at p)
  pub tests_rest : tests_of (cones_of ws) primal p ≡ i + tests_of (drop i (cones_of ws)) primal (drop at p)

pub passed_none : (ws : List (List ℕ)) (primal : Bool) (p : List Float) → total_of (cones_of ws) ≡ length p → PassedTo ws primal p 0 0
passed_none ws primal p e = record { upto = omega arith; lengths = omega arith; pass_rest = refl; tests_rest = omega arith }

module _ (ws : List (List ℕ)) (primal : Bool) (p : List Float) (at i : ℕ) (z : List ℕ) (h : i < length ws)
    (s : PassedTo ws primal p at i) where
  abbrev tested : Cone
  tested = cone_of_words (get_or ws i z)

  abbrev later : List Cone
  later = drop (i + 1) (cones_of ws)

  abbrev its_part : List Float
  its_part = take (numel_of tested) (drop at p)

  pub fits : at + numel_of tested ≤ length p
  fits = omega (arith, s.lengths, total-from ws i z h)

  pass_now : all_pass (cones_of ws) primal p ≡ all_pass (tested ∷ later) primal (drop at p)
  pass_now = s.pass_rest ∙ ap (λ (cs : List Cone). all_pass cs primal (drop at p)) (cones-from ws i z h)

  tests_now : tests_of (cones_of ws) primal p ≡ i + tests_of (tested ∷ later) primal (drop at p)
  tests_now = s.tests_rest ∙ ap (λ (cs : List Cone). i + tests_of cs primal (drop at p)) (cones-from ws i z h)

  pub passed-next : cone_passes tested primal its_part ≡ true → PassedTo ws primal p (at + numel_of tested) (i + 1)
  passed-next e =
      let on = drop-drop (numel_of tested) at p in
      record {
        upto = omega arith;
        lengths = omega (arith, s.lengths, total-from ws i z h);
        pass_rest = pass_now ∙ pass_on tested later primal (drop at p) e ∙ ap (all_pass later primal) on;
        tests_rest =
            tests_now
            ∙ ap (λ (n : ℕ). i + n) (tests_on tested later primal (drop at p) e ∙ ap (λ (x : List Float). suc (tests_of later primal x)) on)
            ∙ one-over (tests_of later primal (drop (at + numel_of tested) p));
      }
    where
      one-over : (n : ℕ) → i + suc n ≡ i + 1 + n
      one-over n = omega arith

  pub failed_now : cone_passes tested primal its_part ≡ false → record { all = false; count = i + 1 } ≡ tested_of (cones_of ws) primal p
  failed_now e =
      tested-is (cones_of ws) primal p false (i + 1) (pass_now ∙ pass_ends tested later primal (drop at p) e)
      (tests_now ∙ ap (λ (n : ℕ). i + n) (tests_end tested later primal (drop at p) e))

pub passed_all : (ws : List (List ℕ)) (primal : Bool) (p : List Float) (at i : ℕ) → PassedTo ws primal p at i → length ws ≤ i
    → record { all = true; count = length ws } ≡ tested_of (cones_of ws) primal p
passed_all ws primal p at i s h =
    let none = cones_end ws i h in
    tested-is (cones_of ws) primal p true (length ws)
    (s.pass_rest ∙ ap (λ (cs : List Cone). all_pass cs primal (drop at p)) none ∙ pass_none primal (drop at p))
    (s.tests_rest ∙ ap (λ (cs : List Cone). i + tests_of cs primal (drop at p)) none ∙ ap (λ (n : ℕ). i + n) (tests_none primal (drop at p))
    ∙ all_of_them i (length ws) s.upto h)
  where
    all_of_them : (i n : ℕ) → i ≤ n → n ≤ i → i + 0 ≡ n
    all_of_them i n a b = omega arith
