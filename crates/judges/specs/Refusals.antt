-- The tests of the table's rows, and what a refused call leaves. Definitions only.
use Rattle.std.specs.Prelude.{ℕ, Bool, Option, Some, None, cond, not, ◌&&◌, ◌||◌, List, eqb, Float, length}
use Rattle.std.specs.Float.Ieee.Scale.{finite}
use Rattle.double.specs.Numbers.{#0}
use Rattle.cone.specs.Codes.{is_wide}
use Rattle.cone.specs.declared.Cone.{Cone}
use Rattle.cone.specs.declared.Settings.{Settings}
use Rattle.cone.specs.declared.Scaling.{Scaling}
use Rattle.cone.specs.declared.Number.{Number}
use Rattle.cone.specs.declared.Rounds.{Rounds}
use Rattle.cone.specs.declared.Updated.{Updated}
use Rattle.cone.specs.table.Table.{settle}
use Rattle.judges.specs.Judges.{cone_ok, all_finite, record_finite, settings_ok, strategy_ok}

-- ---- the rows' tests

-- 1: "bad cone: kind is not 1 (exponential), 2 (power), 3 (generalized)" and what follows there
abbrev pub bad_cone : Cone → Bool
bad_cone c = not (cone_ok c)

-- 1: "or is 3 in a correction or combined shift"
abbrev pub bad_cone_3d : Cone → Bool
bad_cone_3d c = not (cone_ok c) || is_wide c.kind

-- 2: "a lent slice has another length than needed (3, 6 for a packed block, or dim1+dim2)"
abbrev pub other_length : ℕ → List Float → Bool
other_length n xs = not (eqb (length xs) n)

-- 3: "an input number is NaN or infinite"
abbrev pub not_finite : List Float → Bool
not_finite xs = not (all_finite xs)

-- 4: "search start not above 0; step not above 0 or more than 0.99; smallest step not a positive normal number"
abbrev pub bad_settings : Settings → Bool
bad_settings s = not (settings_ok s)

-- 4: "strategy code neither 1 (dual) nor 2 (primal-dual)"
abbrev pub bad_strategy : ℕ → Bool
bad_strategy k = not (strategy_ok k)

-- 11: "an update at serial 4,294,967,295"
abbrev pub last_serial : ℕ
last_serial = 4294967295

abbrev pub is_spent : Scaling → Bool
is_spent s = eqb s.serial last_serial

-- 5: "record never scaled"; any bytes may arrive, and every value but 0 is a yes
abbrev pub never_scaled : Scaling → Bool
never_scaled s = eqb s.scaled 0

-- 10: "if the serial differs" from the one that the call expects
abbrev pub other_serial : ℕ → Scaling → Bool
other_serial expected s = not (eqb s.serial expected)

-- ---- what a call leaves

-- its answer, and the slice that it was lent to write
pub record Lent (A : Type 0) : Type 0 where
  pub answer : A
  pub slice : List Float

pub record LentTwo (A : Type 0) : Type 0 where
  pub answer : A
  pub first : List Float
  pub second : List Float

-- 01: "A refusal returns zeros for all numbers and no for a yes or no, changes no lent buffer". Of a call whose answer is its number alone
abbrev pub refuse : List Float → ℕ → Lent ℕ
refuse old k = record { answer = k; slice = old }

abbrev pub refuse_two : List Float → List Float → ℕ → LentTwo ℕ
refuse_two x y k = record { answer = k; first = x; second = y }

abbrev pub refuse_number : ℕ → Number
refuse_number k = record { code = k; value = #0 }

abbrev pub refuse_rounds : List Float → ℕ → Lent Rounds
refuse_rounds old k = record { answer = record { code = k; rounds = 0 }; slice = old }

-- 01: "and returns the scaling record bit for bit"
abbrev pub refuse_update : Scaling → ℕ → Updated
refuse_update r k = record { code = k; scaling = r }

-- ---- 6: "the Rust would panic: Wright omega argument below 0, or ζ not above 0 in the generalized `update_dual_grad_H`"
-- ---- 7: "the finished answer holds a NaN or an infinity"

-- 01: "In an update, 7 looks at all new record numbers"
unfoldable pub last_rows : Option Scaling → ℕ
last_rows None = 6
last_rows (Some new) = cond (record_finite new) 0 7

-- a new record that rows 6 and 7 let through, or their refusal
unfoldable pub settle_record : {A : Type 0} → Option Scaling → (Scaling → A) → (ℕ → A) → A
settle_record None finish refuse = refuse 6
settle_record (Some new) finish refuse = settle (last_rows (Some new)) (finish new) refuse

unfoldable pub publish_of : List Float → List Float → Lent ℕ
publish_of old ans = cond (all_finite ans) (record { answer = 0; slice = ans }) (refuse old 7)

unfoldable pub publish_two_of : List Float → List Float → List Float → List Float → LentTwo ℕ
publish_two_of x y a b = cond (all_finite a && all_finite b) (record { answer = 0; first = a; second = b }) (refuse_two x y 7)

unfoldable pub number_of : Float → Number
number_of value = cond (finite value) (record { code = 0; value = value }) (refuse_number 7)

-- a number that the Rust may panic before
unfoldable pub judged_of : Option Float → Number
judged_of None = refuse_number 6
judged_of (Some value) = number_of value

-- 01: "the round count (1 to 100) is handed back by it and by every primal gradient"; a refusal "returns zeros for all numbers"
unfoldable pub counted_of : ℕ → ℕ → Rounds
counted_of code rounds = cond (eqb code 0) (record { code = 0; rounds = rounds }) (record { code = code; rounds = 0 })

abbrev pub with_rounds : ℕ → Lent ℕ → Lent Rounds
with_rounds n l = record { answer = counted_of l.answer n; slice = l.slice }
