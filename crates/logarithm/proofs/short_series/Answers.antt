-- `short_series` meets its contract: the powers of a small t are at most t, so nothing overflows. Assumes nothing.
use Rattle.logarithm.specs.Steps.{upper}
use Rattle.logarithm.proofs.ShortSeries.{ThreeTerms, three_terms_of}
use Rattle.logarithm.proofs.short_series.Goals as goal
use Rattle.logarithm.proofs.short_series.Goals.{After-high-t5}

-- the three powers
computed : (c : After-high-t5) → ThreeTerms c.args.t c.high-t3.result c.high-t5.result
unfolding upper
computed c =
    three_terms_of c.args.t c.high-t2.result c.high-t3.result c.high-t5.result
    c.requires
    c.high-t2.ensures
    c.high-t3.ensures
    c.high-t5.ensures

pub overflow_mul-result-2 : goal.overflow_mul-result-2
overflow_mul-result-2 c = record { fits = (computed c).third_fits }

pub overflow_add-result : goal.overflow_add-result
overflow_add-result c = record { fits = (computed c).two_fit }

pub overflow_mul-result-3 : goal.overflow_mul-result-3
overflow_mul-result-3 c = record { fits = (computed c).fifth_fits }

pub overflow_add-result-2 : goal.overflow_add-result-2
overflow_add-result-2 c = record { fits = (computed c).all_fit }

pub returns : goal.returns
returns c = (computed c).total
