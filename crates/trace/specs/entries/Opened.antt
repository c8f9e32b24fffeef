-- What opening a trace tells a caller. Definitions only.
use Rattle.std.specs.Prelude.{ℕ, List}
use Rattle.trace.specs.judge.Opening.{open_of}
use Rattle.trace.specs.declared.entries.Opened.{Opened}

-- 02: "9 a trace or record that breaks the layout". Where the list stands is the reader's own
unfoldable pub opened_of : List ℕ → Opened
opened_of bs = record { code = (open_of bs).code; edition = (open_of bs).edition; records = (open_of bs).count }
