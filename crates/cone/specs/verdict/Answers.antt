-- What a cone test tells of its residue and margin. Definitions only.
use Rattle.std.specs.Prelude.{ℕ, Bool, true, false, cond, Float}
use Rattle.std.specs.Float.Ieee.{neg}
use Rattle.double.specs.Operators.{◌≺◌}
use Rattle.cone.specs.declared.verdict.Answer.{Answer}
use Rattle.cone.specs.declared.verdict.Answer.TheVariants.{No, Yes, Undecided}

-- 02, Order 5: "Yes if the residue is above the margin, no if it is below minus the margin .., else undecided, NaN and infinite margins
-- included."
unfoldable pub told_of : Float → Float → Answer
told_of res margin = cond (margin ≺ res) Yes (cond (res ≺ neg margin) No Undecided)

-- 02, Order 5: "no if .. a sign test fails"
abbrev pub judged : Bool → Float → Float → Answer
judged signs res margin = cond signs (told_of res margin) No

-- 02, Order 5: "A trial passes only on yes"
abbrev pub is_yes : Answer → Bool
is_yes No = false
is_yes Yes = true
is_yes Undecided = false

-- the number that stands for an answer in C
abbrev pub number_of : Answer → ℕ
number_of No = 0
number_of Yes = 1
number_of Undecided = 2
