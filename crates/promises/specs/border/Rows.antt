-- 01, "Points at the border": the twelve rows as one table, each a call of a public entry (row g: of omega, which is not public) and its
-- answer. Definitions, and the one statement.
use Rattle.std.specs.Prelude.{ℕ, ◌≡◌, Some, true, false, List, [], ◌∷◌, Float, replicate}
use Rattle.std.specs.Float.Ieee.{neg}
use Rattle.double.specs.Numbers.{dec, #0, #½, #1, #2, #4}
use Rattle.cone.specs.declared.verdict.Answer.{Answer}
use Rattle.cone.specs.declared.verdict.Answer.TheVariants.{Yes, Undecided}
use Rattle.cone.specs.declared.Cone.{Cone}
use Rattle.cone.specs.declared.Settings.{Settings}
use Rattle.cone.specs.Fresh.{fresh_of}
use Rattle.expcone.specs.wright.Omega.{omega_of}
use Rattle.call_cone.specs.formulas.Entries.{verdict_of, is_primal_feasible_of, is_dual_feasible_of, dual_grad_h_of}
use Rattle.call_record.specs.entries.Entries.{gradient_primal_of}
use Rattle.call_search.specs.single.Entries.{backtrack_search_of}

abbrev pub exponential : Cone
exponential = record { kind = 1; dim1 = 0; dim2 = 0; rule = 1; exps = replicate 32 #0 }

abbrev pub power : Float → Cone
power α = record { kind = 2; dim1 = 0; dim2 = 0; rule = 1; exps = α ∷ replicate 31 #0 }

abbrev pub triple : Float → Float → Float → List Float
triple x y z = x ∷ y ∷ z ∷ []

abbrev pub minus : Float → Float
minus x = neg x

abbrev pub #¼ : Float
#¼ = dec 25 2

abbrev pub #⅛ : Float
#⅛ = dec 125 3

abbrev pub settings : Float → Float → Float → Settings
settings start step smallest = record { start = start; step = step; smallest = smallest }

-- a row's input and its answer; the search rows are the exponential cone's, primal
pub data Row : Type 0 where
  primal : Cone → List Float → Answer → Row
  dual : Cone → List Float → Answer → Row
  omega : Float → Float → Row
  primal_gradient_refused : Cone → List Float → ℕ → Row
  dual_gradient : Cone → List Float → List Float → Row
  search : List Float → List Float → Settings → Float → ℕ → List Float → Row

-- A row is right if the call answers so, whatever a slice that it only writes held before: `x y z` below.
abbrev pub Right : Row → Type 0
Right (primal c s answer) = is_primal_feasible_of c s ≡ verdict_of answer
Right (dual c z answer) = is_dual_feasible_of c z ≡ verdict_of answer
Right (omega x w) = omega_of x ≡ Some w
Right (primal_gradient_refused c s k) =
    (x y z : Float)
    → gradient_primal_of (fresh_of c) (triple x y z) s ≡ record { answer = record { code = k; rounds = 0 }; slice = triple x y z }
Right (dual_gradient c z g) = ((dual_grad_h_of c z).code ≡ 0) × ((dual_grad_h_of c z).three.grad ≡ g)
Right (search q dq how step count point) =
    (x y z : Float)
    → backtrack_search_of exponential true dq q (triple x y z) how
    ≡ record { answer = record { code = 0; count = count; step = step }; slice = point }

-- a to l, in the paper's order and with its numbers. 02, Order 5: "Border cases b, d and f become undecided."
unfoldable pub table : List Row
table =
    primal exponential (triple (minus #1) #1 #1) Yes
    ∷ primal exponential (triple #0 #1 #1) Undecided
    ∷ dual exponential (triple (minus #1) #0 #1) Yes
    ∷ dual exponential (triple (minus #1) (minus #1) #1) Undecided
    ∷ primal (power #½) (triple #1 #1 #0) Yes
    ∷ primal (power #½) (triple #1 #1 #1) Undecided
    ∷ omega #1 #1
    ∷ primal_gradient_refused exponential (triple #2 #1 #1) 6
    ∷ dual_gradient exponential (triple (minus #1) #0 #1) (triple #1 (minus #1) (minus #2))
    ∷ search (triple #0 (minus #1) #1) (triple #0 #0 #0) (settings #1 #½ #¼) #0 3 (triple #0 (minus #1) #1)
    ∷ search (triple (minus #1) #1 #1) (triple #0 #0 #0) (settings (dec 1 1) #½ #¼) (dec 1 1) 1 (triple (minus #1) #1 #1)
    ∷ search (triple (minus #1) #1 #1) (triple #0 (minus #4) #0) (settings #1 #½ #⅛) #⅛ 4 (triple (minus #1) #½ #1)
    ∷ []

abbrev pub AllRight : List Row → Type 0
AllRight [] = Unit {0}
AllRight (r ∷ rows) = Right r × AllRight rows

-- the statement
abbrev pub Border : Type 0
Border = AllRight table
