-- `rows` asks the table of its definition. Assumes nothing.
use borrow.Author.Rules.{rules}
use Rattle.call_record.proofs.blocks.rows.Goals as goal

pub returns : goal.returns
returns c =
    simp (
      c.first_row.ensures,
      c.three_finite.ensures,
      c.three_ok.ensures,
      c.rule_ok.ensures,
      c.copied.ensures,
      c.no_faults-faults.ensures,
    )
