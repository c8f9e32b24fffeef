-- Number 1 of document 01's table: what it asks of a cone. Definitions only.
use Rattle.std.specs.Prelude.{ℕ, Bool, true, false, cond, ◌&&◌, ◌||◌, List, [], ◌∷◌, eqb, leb, take, Float}
use Rattle.std.specs.Float.Ieee.{neg}
use Rattle.double.specs.Operators.{◌⊖◌, ◌≺◌, ◌≼◌, at}
use Rattle.double.specs.Numbers.{#0, #1, #tolerance1, #tolerance2}
use Rattle.algebra.specs.Vectors.{sum_of}
use Rattle.cone.specs.Codes.{is_wide}
use Rattle.cone.specs.declared.Cone.{Cone}

-- every element passes the test
unfoldable pub all_of : (Float → Bool) → List Float → Bool
all_of p [] = true
all_of p (x ∷ xs) = p x && all_of p xs

-- 01: "power exponent not above 0 and below 1". A NaN is neither
abbrev pub power_ok : Float → Bool
power_ok α = #0 ≺ α && α ≺ #1

-- 01: "generalized exponent not above 0 and at most 1"
abbrev pub exponent_ok : Float → Bool
exponent_ok α = #0 ≺ α && α ≼ #1

-- 02, Order 9: "The cone carries its rule number, 1 or 2."
abbrev pub rule1 : ℕ
rule1 = 1

abbrev pub rule2 : ℕ
rule2 = 2

-- "another rule number gives 1", whatever the kind
abbrev pub rule_ok : ℕ → Bool
rule_ok rule = eqb rule rule1 || eqb rule rule2

-- "From planner release 2 the exponents of a generalized cone must have a computed sum within 2^-50 of 1. Release 1 cones keep 2^-40."
unfoldable pub tolerance_of : ℕ → Float
tolerance_of rule = cond (eqb rule rule2) #tolerance2 #tolerance1

-- 01: "its computed exponent sum more than" the tolerance from 1 is bad: exactly the tolerance is taken
abbrev pub sum_ok : List Float → Float → Bool
sum_ok α tolerance = sum_of α ⊖ #1 ≼ tolerance && neg tolerance ≼ sum_of α ⊖ #1

-- 01: "its dim1 or dim2 not 1..32"; the first dim1 exponent places are used
unfoldable pub wide_ok : ℕ → ℕ → List Float → Float → Bool
wide_ok dim1 dim2 exps tolerance =
    leb 1 dim1 && leb dim1 32 && leb 1 dim2 && leb dim2 32
    && all_of exponent_ok (take dim1 exps)
    && sum_ok (take dim1 exps) tolerance

-- 01: "bad cone: kind is not 1 (exponential), 2 (power), 3 (generalized)". Of the kinds other than 3, which use at most one exponent
unfoldable pub three_ok : ℕ → Float → Bool
three_ok kind α = cond (eqb kind 1) true (cond (eqb kind 2) (power_ok α) false)

-- and of all, where this is the tolerance
unfoldable pub cone_ok_within : Float → Cone → Bool
cone_ok_within tolerance c =
    cond (is_wide c.kind) (wide_ok c.dim1 c.dim2 c.exps tolerance) (three_ok c.kind (at c.exps 0))

-- the rule is judged for every kind; its tolerance is kind 3's alone
unfoldable pub cone_ok : Cone → Bool
cone_ok c = rule_ok c.rule && cone_ok_within (tolerance_of c.rule) c
