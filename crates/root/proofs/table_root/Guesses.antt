-- A guess and the one that a correction step makes of it: not above the root either, with a rest that has fallen, and every number in
-- between fits its place. Assumes nothing.
use mathlib.Core.Path.{◌≡◌, ap}
use Prim.Native.Nat.{ℕ, ◌+◌, ◌-◌, ◌*◌, ◌/◌, ◌^◌, ◌≤◌, ◌<◌}
use native.Mathlib.Nat.{le_of_lt, lt_of_le_of_lt, mul-le-mul, mul-le-mul_right, mul-pos, div-mul-le_self, lt-div-mul-add}
use native.Mathlib.Omega.{arith}
use lib.Dec.{leb→le}
use Rattle.arith.proofs.Squares.{lt_of_squares}
use Rattle.root.specs.declared.table_root.Guess.{Guess}
use Rattle.root.specs.table_root.Steps.{addition, step_of}
use Rattle.root.specs.table_root.Room.{StepFits}
use Rattle.root.proofs.table_root.Corrections.{Near, raised, no_higher, falls, still_near}

-- a guess at the root of n: v / M is near to 1 over twice that root
pub record Held (n v M : ℕ) (g : Guess) : Type 0 where
  pub held : g.root * g.root + g.rest ≡ n
  pub near : Near g.root g.rest v M

-- its root is below a number whose square is above n
pub root_lt : (n v M k : ℕ) (g : Guess) → Held n v M g → n < k * k → g.root < k
root_lt n v M k g i h = lt_of_squares n g.root k (go (g.root * g.root) g.rest i.held) h
  where
    go : (a b : ℕ) → a + b ≡ n → a ≤ n
    go a b e = omega arith

-- the guess after a step, in units finer by s
pub record Next (n v M s unit : ℕ) (g : Guess) : Type 0 where
  pub held : Held (n * (s * s)) v (M * s) (step_of v s unit g)
  pub root : g.root * s ≤ (step_of v s unit g).root
  pub rest : (step_of v s unit g).rest * 2 ^ 17 ≤ 7 * (g.rest * (s * s)) + (2 * (g.root * s) + 2 ^ 18 * (s * s)) * 2 ^ 17

-- M is unit * 2^18 * s
module _ (n v M s unit : ℕ) (g : Guess) (i : Held n v M g) (pv : 0 < v) (pu : 0 < unit) (ps : 0 < s) (eM : M ≡ unit * 2 ^ 18 * s) where
  abbrev q : ℕ
  q = g.rest / 2 ^ 18 * v / unit

  abbrev r : ℕ
  r = g.root * s

  abbrev R : ℕ
  R = g.rest * (s * s)

  pm : 0 < M * s
  pm = rw eM (mul-pos (mul-pos (mul-pos pu (leb→le _ _ tt)) ps) ps)

  at_most : q * (M * s) ≤ R * v
  at_most =
      rw eM
      (go (g.rest / 2 ^ 18) q
      (mul-le-mul_right (2 ^ 18) (div-mul-le_self (g.rest / 2 ^ 18 * v) unit))
      (mul-le-mul_right v (div-mul-le_self g.rest (2 ^ 18))))
    where
      shape :
          (q t : ℕ) → q * unit * 2 ^ 18 ≤ t * v → q * unit * 2 ^ 18 * (s * s) ≤ t * v * (s * s)
          → q * (unit * 2 ^ 18 * s * s) ≤ t * (s * s) * v
      shape q t h l = omega arith

      go :
          (a q : ℕ) → q * unit * 2 ^ 18 ≤ a * v * 2 ^ 18 → a * 2 ^ 18 * v ≤ g.rest * v
          → q * (unit * 2 ^ 18 * s * s) ≤ g.rest * (s * s) * v
      go a q h l =
          let k : q * unit * 2 ^ 18 ≤ g.rest * v = omega arith in
          shape q g.rest k (mul-le-mul_right (s * s) k)

  at_least : R * v ≤ q * (M * s) + M * s + 2 ^ 18 * (s * s) * v
  at_least =
      rw eM
      (go (g.rest / 2 ^ 18) q
      (le_of_lt (lt-div-mul-add {a = g.rest / 2 ^ 18 * v} pu))
      (mul-le-mul_right v (le_of_lt (lt-div-mul-add {a = g.rest} {b = 2 ^ 18} (leb→le _ _ tt)))))
    where
      shape :
          (q t : ℕ) → t * v * (s * s) ≤ (q * unit * 2 ^ 18 + unit * 2 ^ 18 + 2 ^ 18 * v) * (s * s)
          → t * (s * s) * v ≤ q * (unit * 2 ^ 18 * s * s) + unit * 2 ^ 18 * s * s + 2 ^ 18 * (s * s) * v
      shape q t h = omega arith

      go :
          (a q : ℕ) → a * v ≤ q * unit + unit → g.rest * v ≤ (a * 2 ^ 18 + 2 ^ 18) * v
          → g.rest * (s * s) * v ≤ q * (unit * 2 ^ 18 * s * s) + unit * 2 ^ 18 * s * s + 2 ^ 18 * (s * s) * v
      go a q h l =
          let k : g.rest * v ≤ q * unit * 2 ^ 18 + unit * 2 ^ 18 + 2 ^ 18 * v = omega arith in
          shape q g.rest (mul-le-mul_right (s * s) k)

  finer : Near r R v (M * s)
  finer = raised g.root g.rest v M s i.near

  not-above : q * (2 * r + q) ≤ R
  not-above = no_higher r R v (M * s) q finer pv pm at_most

  left : R - q * (2 * r + q) + q * (2 * r + q) ≡ R
  left = omega (arith, not-above)

  pub next : Next n v M s unit g
  unfolding step_of addition
  next = record {
    held = record {
      held = held q r R left (omega (arith, ap (λ (k : ℕ). k * (s * s)) i.held));
      near = still_near r R v (M * s) q finer pv pm at_most (2 ^ 18 * (s * s)) at_least (R - q * (2 * r + q)) left;
    };
    root = no_less r q;
    rest = falls r R v (M * s) q finer pv pm at_most (2 ^ 18 * (s * s)) at_least (R - q * (2 * r + q)) left;
  }
    where
      held :
          (q r R : ℕ) → R - q * (2 * r + q) + q * (2 * r + q) ≡ R → r * r + R ≡ n * (s * s)
          → (r + q) * (r + q) + (R - q * (2 * r + q)) ≡ n * (s * s)
      held q r R h l = omega arith

      no_less : (a b : ℕ) → a ≤ a + b
      no_less a b = omega arith

  -- so that nothing leaves 64 bits
  pub step_fits :
      v ≤ 2 ^ 31 → s ≤ 256 → g.rest < 2 ^ 50 → g.rest * (s * s) < 2 ^ 64 → (step_of v s unit g).root < 2 ^ 53
      → StepFits v s unit g
  unfolding step_of addition
  step_fits mv ms small whole root =
      let a : g.rest / 2 ^ 18 ≤ 2 ^ 32 - 1 = omega arith in
      record {
        product = lt_of_le_of_lt (mul-le-mul a mv) (leb→le _ _ tt);
        some = pu;
        scaled = ms;
        root = twice_root r q root;
        rest = whole;
        under = not-above;
      }
    where
      twice_root : (a b : ℕ) → a + b < 2 ^ 53 → 2 * a + b < 2 ^ 64
      twice_root a b h = omega arith
