-- The rows of the table for a call over a record, but for an update. Definitions only.
use Rattle.std.specs.Prelude.{ℕ, Bool}
use Rattle.cone.specs.table.Table.{record_faults, first_row}

-- What is wrong, a row each: with the record's cone, with a slice's length, with a number of the call or of the record; that the record was
-- never scaled, and that its serial is another. `entries` judges a whole record, and the modules by kind the part that their kinds keep.
abbrev pub record_rows : Bool → Bool → Bool → Bool → Bool → ℕ
record_rows cone length number unscaled serial = first_row (record_faults cone length number unscaled serial)
