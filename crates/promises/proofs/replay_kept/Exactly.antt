-- A record is the same exactly if its search, run again, gives what it holds: the comparison taken apart, and a step that can be laid out
-- has the bits of its double. Assumes nothing.
use Prim.Native.Nat.{ℕ}
use mathlib.Core.Path.{◌≡◌, sym, ◌∙◌, subst}
use mathlib.Core.Bool.{Bool, true, not, ◌&&◌}
use native.Mathlib.Omega.{arith}
use lib.Dec.{T, eqb}
use lib.Ieee.{binary64, to_bits, of_bits}
use lib.Ieee.Bits.{to_bits-of_bits, nan_bits_is}
use borrow.Author.Tests.{eqb-true, eq-eqb, ltb-true}
use Rattle.arith.proofs.Branches.{and_left, and_right}
use Rattle.double.proofs.Made.{number}
use Rattle.cone.specs.declared.Steps.{Steps}
use Rattle.trace_layout.specs.Records.{Record, Laid, step_ok}
use Rattle.trace.specs.value.Recorded.{steps_of, recorded_of}
use Rattle.trace_replay.specs.rerun.Rerun.{same_answers, rerun_of, agrees_of}
use Rattle.trace_replay.specs.call.Replay.{same_record}
use Rattle.promises.specs.replay_kept.Replays.{GivesHeld}

-- ---- the comparison

pub record SameBits (a b : Steps) : Type 0 where
  pub done : a.code ≡ 0
  pub dual_step : to_bits binary64 a.dualstep ≡ to_bits binary64 b.dualstep
  pub dual-count : a.dualcount ≡ b.dualcount
  pub primal_step : to_bits binary64 a.primalstep ≡ to_bits binary64 b.primalstep
  pub primal_count : a.primalcount ≡ b.primalcount

pub compared : (a b : Steps) → same_answers a b ≡ true → SameBits a b
unfolding same_answers
compared a b h =
    let code = eqb a.code 0 in
    let dual = eqb (to_bits binary64 a.dualstep) (to_bits binary64 b.dualstep) in
    let tests = eqb a.dualcount b.dualcount in
    let primal = eqb (to_bits binary64 a.primalstep) (to_bits binary64 b.primalstep) in
    let last = eqb a.primalcount b.primalcount in
    let upto_primal = and_left (code && dual && tests && primal) last h in
    let upto_tests = and_left (code && dual && tests) primal upto_primal in
    let upto_dual = and_left (code && dual) tests upto_tests in
    record {
      done = eqb-true a.code 0 (and_left code dual upto_dual);
      dual_step = eqb-true _ _ (and_right code dual upto_dual);
      dual-count = eqb-true _ _ (and_right (code && dual) tests upto_tests);
      primal_step = eqb-true _ _ (and_right (code && dual && tests) primal upto_primal);
      primal_count = eqb-true _ _ (and_right (code && dual && tests && primal) last h);
    }

pub all_equal : (a b : Steps) → SameBits a b → same_answers a b ≡ true
unfolding same_answers
all_equal a b c =
    rw (
      eq-eqb a.code 0 c.done,
      eq-eqb (to_bits binary64 a.dualstep) (to_bits binary64 b.dualstep) c.dual_step,
      eq-eqb a.dualcount b.dualcount c.dual-count,
      eq-eqb (to_bits binary64 a.primalstep) (to_bits binary64 b.primalstep) c.primal_step,
      eq-eqb a.primalcount b.primalcount c.primal_count,
    )

-- ---- the bits

step_bits : (b : ℕ) → step_ok b ≡ true → to_bits binary64 (of_bits binary64 b) ≡ b
unfolding step_ok
step_bits b ok =
    let below = ltb-true b 0x7ff0_0000_0000_0000 ok in
    to_bits-of_bits binary64 b (omega (arith, below))
    (subst (λ (t : Bool). T (not t)) (nan_bits_is binary64 b) (number b (omega (arith, below))))

module _ (e : ℕ) (r : Record) (laid : Laid e r) where
  pub same_gives : same_record e r ≡ true → GivesHeld (rerun_of (recorded_of e 0 r)) r
  unfolding same_record agrees_of recorded_of steps_of
  same_gives h =
      let c = compared (rerun_of (recorded_of e 0 r)) (steps_of r) h in
      record {
        done = c.done;
        dual_step = c.dual_step ∙ step_bits r.dualstep laid.dualstep;
        dual-count = c.dual-count;
        primal_step = c.primal_step ∙ step_bits r.primalstep laid.primalstep;
        primal_count = c.primal_count;
      }

  pub gives_same : GivesHeld (rerun_of (recorded_of e 0 r)) r → same_record e r ≡ true
  unfolding same_record agrees_of recorded_of steps_of
  gives_same g =
      all_equal (rerun_of (recorded_of e 0 r)) (steps_of r) (record {
        done = g.done;
        dual_step = g.dual_step ∙ sym (step_bits r.dualstep laid.dualstep);
        dual-count = g.dual-count;
        primal_step = g.primal_step ∙ sym (step_bits r.primalstep laid.primalstep);
        primal_count = g.primal_count;
      })
