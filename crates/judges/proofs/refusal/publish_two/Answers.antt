-- `publish_two` stores two answers that are finite, and leaves with 7 otherwise. Assumes nothing.
use Rattle.judges.specs.Refusals.{publish_two_of}
use Rattle.judges.proofs.refusal.publish_two.Goals as goal

pub returns-then-all_finite : goal.returns-then-all_finite
unfolding publish_two_of
returns-then-all_finite c =
    let both_stored = c.before.before in
    let first-stored = both_stored.before.before.before.before in
    let both_finite = first-stored.before.before in
    let judged = both_finite.before in
    simp (
      simp (judged.all_finite.ensures, judged.all_finite-2.ensures) at both_finite.if-all_finite.true,
      first-stored.store.ensures,
      both_stored.store-then-all_finite.ensures,
    )

pub returns : goal.returns
unfolding publish_two_of
returns c = simp (simp (c.all_finite.ensures, c.all_finite-2.ensures) at c.if-all_finite.false)
