-- The table of document 01, row by row, and how a call goes on from it. Definitions only.
use Rattle.std.specs.Prelude.{ℕ, zero, suc, Bool, false, cond, Result, Ok, Err}
use Rattle.cone.specs.declared.table.Faults.{Faults}
use Rattle.cone.specs.declared.table.Refusal.{Refusal}
use Rattle.cone.specs.declared.table.Refusal.TheVariants.{BadCone, WrongLength, NotFinite, BadSettings, NeverScaled, WouldPanic, AnswerNotFinite}
use Rattle.cone.specs.declared.table.Refusal.TheVariants.{NoRoom, BrokenTrace, OtherSerial, LastSerial}

-- 01: the numbers of the table; 02, Orders 1 and 6: 8 to 11
abbrev pub number_of : Refusal → ℕ
number_of BadCone = 1
number_of WrongLength = 2
number_of NotFinite = 3
number_of BadSettings = 4
number_of NeverScaled = 5
number_of WouldPanic = 6
number_of AnswerNotFinite = 7
number_of NoRoom = 8
number_of BrokenTrace = 9
number_of OtherSerial = 10
number_of LastSerial = 11

-- What C is told of a call's rows, and of any answer that is a refusal or none: 0 is "done".
abbrev pub code_of : {A : Type 0} → Result A Refusal → ℕ
code_of (Ok a) = 0
code_of (Err e) = number_of e

-- 01: "Only the first in this order is given." The order of the table, for what can be wrong with a call's arguments; 0 is "done".
-- 02, Order 6: "10 if the serial differs, after 5; 11 for an update at serial 4,294,967,295, after 4 and before 6."
-- 6 and 7 are given on the way to an answer.
unfoldable pub first_row : Faults → ℕ
first_row f =
    cond f.cone 1
    (cond f.length 2
    (cond f.number 3
    (cond f.setting 4
    (cond f.spent 11
    (cond f.unscaled 5
    (cond f.serial 10
    0))))))

-- What can be wrong with a call, by the rows that can refuse it. A call names these alone: a further row of the table is written here.

-- nothing
abbrev pub no_faults : Faults
no_faults = record { cone = false; length = false; number = false; setting = false; spent = false; unscaled = false; serial = false }

-- rows 1 to 3, of a call over a cone
abbrev pub cone_faults : Bool → Bool → Bool → Faults
cone_faults cone length number =
    record { cone = cone; length = length; number = number; setting = false; spent = false; unscaled = false; serial = false }

-- 4 too, of a search
abbrev pub setting_faults : Bool → Bool → Bool → Bool → Faults
setting_faults cone length number setting =
    record { cone = cone; length = length; number = number; setting = setting; spent = false; unscaled = false; serial = false }

-- 4 and 11, of an update
abbrev pub update_faults : Bool → Bool → Bool → Bool → Bool → Faults
update_faults cone length number setting spent =
    record { cone = cone; length = length; number = number; setting = setting; spent = spent; unscaled = false; serial = false }

-- 5 and 10, of every other call over a record
abbrev pub record_faults : Bool → Bool → Bool → Bool → Bool → Faults
record_faults cone length number unscaled serial =
    record { cone = cone; length = length; number = number; setting = false; spent = false; unscaled = unscaled; serial = serial }

-- 02, Order 1: "Refusals, the only ones here: 9 a trace or record that breaks the layout; then 8 no room for record plus list plus trailer,
-- or 4,096 records already. Both follow 4."
unfoldable pub trace_row : Bool → Bool → ℕ
trace_row broken full = cond broken 9 (cond full 8 0)

-- A call whose rows give k: where that is 0 it goes on, and else it is refused with k.
unfoldable pub settle : {A : Type 0} → ℕ → A → (ℕ → A) → A
settle zero done refuse = done
settle (suc k) done refuse = refuse (suc k)
