-- Where every file was read, the rows hold their sheet, and it is printed.
use Rattle.std.proofs.Common.{refl, inr, []}
use Rattle.trace_sheet.specs.counts.Sheet.{sheet_of}
use Rattle.trace_sheet.specs.rows.Rows.{Held, totals_of}
use Rattle.trace_sheet.specs.rows.Sums.{Begun}
use Rattle.sheet.proofs.Reading.{sheet_printed}
use Rattle.sheet.proofs.put_files.Goals as goal

pub returns : goal.returns
returns c =
    let before : Held = record {
      totals = totals_of (sheet_of []);
      dual = c.count_room-dual.result;
      primal = c.count_room-primal.result;
      skipped = c.flag_room-skipped.result;
    } in
    let begun : Begun before = record { totals = refl; dual = c.count_room-dual.ensures; primal = c.count_room-primal.ensures } in
    inr (sheet_printed c.args.files c.args.text.now c.put_sheet-printed.new.text before _ _ _ c.requires.0 c.requires.1 begun
    c.flag_room-skipped.ensures _ c.in-Some.ensures c.put_sheet-printed.result c.put_sheet-printed.ensures)
