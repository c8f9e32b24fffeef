-- `mantissa` meets its contract: the entry, the quotient and the series are each small enough for their sum, which is the specification's,
-- whether the estimate is settled or the quotient found by the long division. Assumes nothing.
use Rattle.std.proofs.Common.{◌≡◌, ℕ, ◌+◌, ◌*◌, ◌/◌, ◌%◌, ◌^◌, get_or, ap, ◌∙◌, arith}
use Rattle.logarithm.specs.table.Table.{table}
use Rattle.logarithm.specs.Steps.{short_series_of}
use Rattle.logarithm.proofs.table.TableRule.{entry_small}
use Rattle.logarithm.proofs.Mantissas.{Parts, parts}
use Rattle.logarithm.proofs.mantissa.Goals as goal
use Rattle.logarithm.proofs.mantissa.Goals.{After-entry-e}

pub overflow_mul-e : goal.overflow_mul-e
overflow_mul-e c = omega (arith, entry_small (c.args.m / 17592186044416 % 256) (omega arith))

-- the three parts, of which t is the quotient
module _ (c : After-entry-e) where
  abbrev m : ℕ
  m = c.args.m

  computed :
      (t : ℕ) → t ≡ m % 17592186044416 * 2 ^ 60 / (m + m / 17592186044416 * 17592186044416) → Parts m t c.entry-e.result (short_series_of (16 * t))
  computed t e =
      parts m t c.entry-e.result (short_series_of (16 * t)) c.requires.0 c.requires.1 e
      (c.entry-e.ensures ∙ ap (λ (i : ℕ). get_or table i 0) (omega arith)) (ap short_series_of (turned t))
    where
      turned : (t : ℕ) → 16 * t ≡ t * 16
      turned t = omega arith

pub settled-t-requires : goal.settled-t-requires
settled-t-requires c = (c.left_over-rest.ensures c.if-rest-n.true, c.if-rest-n.true)

pub summed-requires : goal.summed-requires
summed-requires c =
    let near = c.estimated-near.ensures in
    let p = computed c.before.before.before.before c.settled-t.result c.settled-t.ensures.0 in
    record {
      e_small = omega (arith, p);
      t_small = omega (arith, p);
      c_small = near.c_small;
      c_above = near.c_above c.settled-t.result c.settled-t.ensures.1 c.settled-t.ensures.2;
      c_below = near.c_below c.settled-t.result c.settled-t.ensures.1 c.settled-t.ensures.2;
    }

pub returns-then-rest-n : goal.returns-then-rest-n
returns-then-rest-n c =
    c.summed.ensures
    ∙ ap (λ (x : ℕ). x / 2 ^ 11) (computed c.before.before.before.before.before _ c.settled-t.ensures.0).total

pub overflow_mul-long_division : goal.overflow_mul-long_division
overflow_mul-long_division c = omega (arith, computed c.before.before.before.before _ c.long_division.ensures)

pub short_series-requires : goal.short_series-requires
short_series-requires c = omega (arith, computed c.before.before.before.before _ c.long_division.ensures)

pub overflow_add-result : goal.overflow_add-result
overflow_add-result c =
    omega (arith, c.short_series.ensures, computed c.before.before.before.before.before _ c.long_division.ensures)

pub returns : goal.returns
returns c =
    ap (λ (x : ℕ). (c.entry-e.result * 256 + x) / 2 ^ 11) c.short_series.ensures
    ∙ ap (λ (x : ℕ). x / 2 ^ 11) (computed c.before.before.before.before.before _ c.long_division.ensures).total
