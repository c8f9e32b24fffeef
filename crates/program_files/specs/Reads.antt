-- What a read's answer says. Definitions only.
use Rattle.std.specs.Prelude.{ℕ, ◌≤◌, min, Result, Ok, Err, IfOk}

-- POSIX, read: "Upon successful completion, these functions shall return a non-negative integer indicating the number of bytes actually
-- read. Otherwise, the functions shall return -1", which std gives as Err. "If .. at or after the end-of-file, 0 shall be returned": only
-- bytes that came say that there may be more. A failed read is no end of the file, whatever the next one answers. What a read into `room`
-- places says is how many bytes came, or that it failed
unfoldable pub turn_of : {E : Type 0} → Result ℕ E → ℕ → Result ℕ E
turn_of (Ok n) room = Ok (min n room)
turn_of (Err e) room = Err e

-- the bytes of a turn have room
abbrev pub Within : {E : Type 0} → ℕ → Result ℕ E → Type 0
Within room t = IfOk t (λ n. n ≤ room)
