-- `search` is the definition, trial by trial. The invariant is `Stands`: the trial α is allowed, all before it failed, and the count is of
-- their single tests. The measure is what is left of 2,048 times `bound`, since every trial makes a test at least. Assumes nothing.
use Rattle.std.proofs.Common.{refl, ap, ◌∙◌}
use Rattle.search.specs.trials.Asked.{Trials, tested_at}
use Rattle.search.proofs.Settings.{of_true, usable_of}
use Rattle.search.proofs.trials.Costed.{stands_start}
use Rattle.search.proofs.trials.OneMore.{count-fits, falls, goes_on, passed, none_passed}
use Rattle.search.proofs.trials.search.Goals as goal

-- That the settings' numbers are doubles is known of every parameter: how is the second, start and smallest are its first and third field.
pub loop-how-init : goal.loop-how-init
loop-how-init g c =
    let f = c.well_formed.1.0.1.1 in
    let usable = usable_of c.args.how (of_true _ f.0.1) (of_true _ f.1.1.0.1) c.requires.finite c.requires.good in
    (c.requires.sound, refl, refl, usable, stands_start _)

-- what was tested is what the definition tests, since a trial changes nothing that the search is about
pub overflow_add-count : goal.overflow_add-count
overflow_add-count g c =
    let i = c.loop-how.invariant in
    let tested = c.at-tested.ensures.tested ∙ ap (λ (t : Trials). tested_at t c.loop-how.alpha) i.2 in
    record { fits = count-fits _ c.args.how i.3 _ _ i.4 _ tested c.requires.costs }

pub loop-how-smaller : goal.loop-how-smaller
loop-how-smaller g c =
    let i = c.loop-how.invariant in
    let tested = c.at-tested.ensures.tested ∙ ap (λ (t : Trials). tested_at t c.loop-how.alpha) i.2 in
    falls _ c.args.how i.3 _ _ i.4 _ tested c.requires.costs

pub loop-how-preserved : goal.loop-how-preserved
loop-how-preserved g c =
    let i = c.loop-how.invariant in
    let e = c.at-tested.ensures in
    let tested = e.tested ∙ ap (λ (t : Trials). tested_at t c.loop-how.alpha) i.2 in
    let on = goes_on _ c.args.how i.3 _ _ i.4 _ tested c.if-tested.false c.if-alpha-how.false in
    (e.sound, e.lent ∙ i.1, e.about ∙ i.2, i.3, on)

pub returns-then-tested-clause-found : goal.returns-then-tested-clause-found
returns-then-tested-clause-found g c =
    let i = c.loop-how.invariant in
    let e = c.at-tested.ensures in
    let tested = e.tested ∙ ap (λ (t : Trials). tested_at t c.loop-how.alpha) i.2 in
    passed _ c.args.how i.3 _ _ i.4 _ tested c.if-tested.true
    (e.point c.if-tested.true ∙ ap (λ (t : Trials). t.point_at c.loop-how.alpha) i.2)

pub returns-then-alpha-how-clause-found : goal.returns-then-alpha-how-clause-found
returns-then-alpha-how-clause-found g c =
    let i = c.loop-how.invariant in
    let e = c.at-tested.ensures in
    let tested = e.tested ∙ ap (λ (t : Trials). tested_at t c.loop-how.alpha) i.2 in
    none_passed _ c.args.how i.3 _ _ i.4 _ tested c.if-tested.false c.if-alpha-how.true
    (c.back.ensures.point ∙ ap (λ (t : Trials). t.q) (e.about ∙ i.2))
