-- `rows` asks the table of its definition. Assumes nothing.
use borrow.Author.Rules.{rules}
use Rattle.call_record.proofs.wide_rows.rows.Goals as goal

pub returns : goal.returns
returns c =
    simp (
      c.first_row.ensures,
      c.wide_finite.ensures,
      c.wide_ok.ensures,
      c.tolerance_of.ensures,
      c.rule_ok.ensures,
      c.no_faults-faults.ensures,
    )
