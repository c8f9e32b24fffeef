-- `update_rows` asks the table of its definition. Assumes nothing.
use Rattle.call_record.specs.update.Entries.{update_rows}
use borrow.Author.Rules.{rules}
use Rattle.call_record.proofs.update.update_rows.Goals as goal

pub returns : goal.returns
unfolding update_rows
returns c =
    simp (
      c.first_row.ensures,
      c.strategy_ok.ensures,
      c.is_finite.ensures,
      c.all_finite-2.ensures,
      c.all_finite.ensures,
      c.lent_finite.ensures,
      c.cone_ok.ensures,
      c.no_faults-faults.ensures,
      c.numel-n.ensures,
      c.copied-cone.ensures,
    )
