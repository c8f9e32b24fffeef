-- A search that was made, run again on what its record gives back, has the same answer. Assumes nothing.
use mathlib.Core.Path.{◌≡◌, refl}
use mathlib.Core.Bool.{true, false, not, ◌||◌}
use mathlib.Core.List.{List}
use Prim.Native.Nat.{ℕ, zero, suc, ◌≤◌}
use lib.Dec.{eqb}
use lib.Ieee.{Float}
use lib.ListN.{length, take}
use lib.Seq.{length-take-le}
use borrow.Author.Tests.{eqb-true, not-false}
use Rattle.arith.proofs.Branches.{or_left, or_right}
use Rattle.cone.specs.declared.Cone.{Cone}
use Rattle.cone.specs.declared.Settings.{Settings}
use Rattle.cone.specs.declared.Steps.{Steps}
use Rattle.cone.specs.Codes.{numel_of}
use Rattle.judges.specs.Judges.{cone_ok}
use Rattle.cone.specs.table.Table.{settle}
use Rattle.judges.specs.Refusals.{LentTwo, other_length}
use Rattle.cone.proofs.table.Settled.{no_fault}
use Rattle.call_search.specs.single.Rows.{step_faults}
use Rattle.call_search.specs.single.Entries.{refuse_steps, step_length_of}
use Rattle.trace_replay.specs.rerun.Rerun.{same_answers, blank_point}
use Rattle.trace.specs.kept.Kept.{kept_steps}
use Rattle.promises.proofs.replay_kept.Cones.{Alike}
use Rattle.promises.proofs.replay_kept.Exactly.{all_equal}

-- ---- what was answered, and what that says of the arguments

code_zero : (k : ℕ) (d : LentTwo Steps) (p q : List Float) → (settle k d (refuse_steps p q)).answer.code ≡ 0 → k ≡ 0
unfolding settle
code_zero zero d p q h = refl
code_zero (suc k) d p q h = h

length-is : (n : ℕ) (xs : List Float) → other_length n xs ≡ false → length xs ≡ n
length-is n xs h = eqb-true (length xs) n (not-false _ h)

-- a search that was done
pub record Taken (c : Cone) (dz ds z s p q : List Float) : Type 0 where
  pub cone : cone_ok c ≡ true
  pub dz_length : length dz ≡ numel_of c
  pub ds_length : length ds ≡ numel_of c
  pub z_length : length z ≡ numel_of c
  pub s_length : length s ≡ numel_of c
  pub p_length : length p ≡ numel_of c
  pub q-length : length q ≡ numel_of c

module _ (c : Cone) (dz ds z s p q : List Float) (how : Settings) where
  abbrev n : ℕ
  n = numel_of c

  pub taken : (step_length_of c dz ds z s p q how).answer.code ≡ 0 → Taken c dz ds z s p q
  unfolding step_length_of step_faults
  taken h =
      let none = no_fault (step_faults c dz ds z s (length p) (length q) how) (code_zero _ _ p q h) in
      let a = other_length n dz in
      let b = other_length n ds in
      let d = other_length n z in
      let e = other_length n s in
      let f = not (eqb (length p) n) in
      let g = not (eqb (length q) n) in
      let upto_p = or_left (a || b || d || e || f) g none.length in
      let upto_s = or_left (a || b || d || e) f upto_p in
      let upto_z = or_left (a || b || d) e upto_s in
      let upto_ds = or_left (a || b) d upto_z in
      record {
        cone = not-false _ none.cone;
        dz_length = length-is n dz (or_left a b upto_ds);
        ds_length = length-is n ds (or_right a b upto_ds);
        z_length = length-is n z (or_right (a || b) d upto_z);
        s_length = length-is n s (or_right (a || b || d) e upto_s);
        p_length = length-is n p (or_right (a || b || d || e) f upto_p);
        q-length = length-is n q (or_right (a || b || d || e || f) g none.length);
      }

  -- points of another content change no answer
  points_settle : (k : ℕ) (d : LentTwo Steps) (p' q' : List Float) → (settle k d (refuse_steps p' q')).answer
      ≡ (settle k d (refuse_steps p q)).answer
  unfolding settle
  points_settle zero d p' q' = refl
  points_settle (suc k) d p' q' = refl

  other_points : (p' q' : List Float) → length p' ≡ length p → length q' ≡ length q
      → (step_length_of c dz ds z s p' q' how).answer ≡ (step_length_of c dz ds z s p q how).answer
  unfolding step_length_of
  other_points p' q' hp hq = rw (hp, hq) (points_settle _ _ p' q')

  -- nor does a cone that is alike
  pub other_cone : (k : Cone) → Alike k c → (p' q' : List Float) → length p' ≡ length p → length q' ≡ length q
      → (step_length_of k dz ds z s p' q' how).answer ≡ (step_length_of c dz ds z s p q how).answer
  unfolding step_length_of step_faults
  other_cone k alike p' q' hp hq =
      rw (alike.numel, alike.ok, alike.dual, alike.primal) (other_points p' q' hp hq)

-- ---- the comparison

pub same_kept : (steps : Steps) → steps.code ≡ 0 → same_answers steps (kept_steps steps) ≡ true
same_kept steps done =
    all_equal steps (kept_steps steps)
    (record { done = done; dual_step = refl; dual-count = refl; primal_step = refl; primal_count = refl })

pub blank_length : (n : ℕ) → n ≤ 64 → length (take n blank_point) ≡ n
unfolding blank_point
blank_length n h = length-take-le n blank_point h
