-- A trial of both sides answers what the test of the dual side found, where it fails, and both together otherwise. Assumes nothing.
use Rattle.std.proofs.Common.{false, true, ap, ◌≡◌, ℕ, ◌+◌, ◌≤◌, ◌<◌, ◌^◌, arith}
use borrow.Author.Tests.{not-true, not-false}
use Rattle.cone.specs.words.Words.{cones_of}
use Rattle.search.specs.declared.trials.Tested.{Tested}
use Rattle.search.proofs.plan.Plans.{tests_most}
use Rattle.search.proofs.plan.Sides.{trial_ends, trial-goes_on}
use Rattle.search.proofs.plan.BothSidesTrial.at.Goals as goal

pub returns-then-not-first-clause-tested : goal.returns-then-not-first-clause-tested
returns-then-not-first-clause-tested c =
    let side = c.requires.1 in
    trial_ends _ _ _ _ _ _ side.dq_length side.total _ c.put_trial.ensures c.test_cones-first.ensures (not-true _ c.if-not-first.true)

-- both counts
pub overflow_add-result : goal.overflow_add-result
overflow_add-result c =
    let cones = cones_of c.args.self.now.cones.now in
    record {
      fits =
          small _ _ _ _ _ (ap (λ (t : Tested). t.count) c.test_cones-first.ensures)
          (ap (λ (t : Tested). t.count) c.test_cones-second.ensures) (tests_most cones false _) (tests_most cones true _) c.requires.0.1;
    }
  where
    small : (a b m k n : ℕ) → a ≡ m → b ≡ k → m ≤ n → k ≤ n → n ≤ 1024 → a + b < 2 ^ 32
    small a b m k n e f g h l = omega arith

pub returns-clause-tested : goal.returns-clause-tested
returns-clause-tested c =
    let side = c.requires.1 in
    trial-goes_on _ _ _ _ _ _ side.dq_length side.total _ _ c.put_trial.ensures c.put_trial-2.ensures c.test_cones-first.ensures
    c.test_cones-second.ensures (not-false _ c.if-not-first.false)
