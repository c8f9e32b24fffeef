-- The totals of two sheets added, where they have room. Definitions only.
use Rattle.std.specs.Prelude.{◌+◌, ◌≤◌, ◌≡◌}
use Rattle.trace_layout.specs.Traces.{most_files}
use Rattle.trace_sheet.specs.counts.Counts.{larger_of, moved_up}
use Rattle.trace_sheet.specs.declared.rows.Totals.{Totals}

-- no file number and no count of the sum is too large
pub record TotalsFit (a b : Totals) : Type 0 where
  pub files : a.files + b.files ≤ most_files
  pub dual : (b.dual.size ≡ 0 → ⊥) → b.dual.file ≤ b.files
  pub primal : (b.primal.size ≡ 0 → ⊥) → b.primal.file ≤ b.files
  pub records : a.records + b.records ≤ 0xffff_ffff_ffff_ffff

unfoldable pub joined_totals : Totals → Totals → Totals
joined_totals a b = record {
  code = 0;
  files = a.files + b.files;
  records = a.records + b.records;
  dual = larger_of a.dual (moved_up a.files b.dual);
  primal = larger_of a.primal (moved_up a.files b.primal);
}
