-- `root_of` meets its contract: the shift by the odd exponent loses nothing, and a root of 53 digits makes no NaN's pattern. Assumes
-- nothing.
use mathlib.Core.Path.{◌≡◌, sym, ap, subst, ◌∙◌}
use Prim.Native.Nat.{ℕ, ◌+◌, ◌*◌, ◌/◌, ◌%◌, ◌^◌, ◌≤◌, ◌<◌}
use native.Mathlib.Omega.{arith}
use lib.Ieee.{binary64, of_bits}
use Rattle.double.proofs.Made.{number}
use Rattle.root.proofs.Radicands.{root_of-radicand}
use Rattle.root.specs.declared.table_root.WholeRoot.{WholeRoot}
use Rattle.root.specs.table_root.Steps.{whole_root_of, table_root_of}
use Rattle.root.proofs.table_root.ThreeSteps.{whole_root_nearest}
use Rattle.root.proofs.table_root.SameRoot.{in_range}
use Rattle.root.proofs.table_root.root_of.Goals as goal

-- a normalised number's digits and exponent
module _ (m k : ℕ) (from : 2 ^ 52 ≤ m) (to : m < 2 ^ 53) where
  inside : (2 ^ 52 ≤ m * 2 ^ (k % 2)) × (m * 2 ^ (k % 2) < 2 ^ 54)
  inside = in_range m k from to

  whole : m * 2 ^ (k % 2) % 2 ^ 64 ≡ m * 2 ^ (k % 2)
  whole = omega (arith, inside)

  -- what the call answers
  is : (f : WholeRoot) → f ≡ whole_root_of (m * 2 ^ (k % 2) % 2 ^ 64) → f ≡ whole_root_of (m * 2 ^ (k % 2))
  is f e = e ∙ ap whole_root_of whole

  root_lt : (f : WholeRoot) → f ≡ whole_root_of (m * 2 ^ (k % 2) % 2 ^ 64) → f.root < 2 ^ 53
  root_lt f e =
      subst (λ (q : ℕ). q < 2 ^ 53)
      (sym (ap (λ (w : WholeRoot). w.root) (is f e) ∙ whole_root_nearest (m * 2 ^ (k % 2)) inside.0 inside.1))
      (omega (arith, (root_of-radicand m k from to).to))

pub near_root-found-requires : goal.near_root-found-requires
near_root-found-requires c =
    let w = whole c.args.n.m c.args.n.k c.requires.0 c.requires.1 in
    let i = inside c.args.n.m c.args.n.k c.requires.0 c.requires.1 in
    (omega (arith, w, i), omega (arith, w, i))

pub overflow_add-result-2 : goal.overflow_add-result-2
overflow_add-result-2 c =
    omega (arith, root_lt c.args.n.m c.args.n.k c.requires.0 c.requires.1 c.near_root-found.result c.near_root-found.ensures)

pub float_from_bits-result : goal.float_from_bits-result
float_from_bits-result c =
    number _ (omega (arith, root_lt c.args.n.m c.args.n.k c.requires.0 c.requires.1 c.near_root-found.result c.near_root-found.ensures))

pub returns : goal.returns
unfolding table_root_of
returns c =
    let m = c.args.n.m in
    let k = c.args.n.k in
    ap (λ (f : WholeRoot). record { root = of_bits binary64 ((k / 2 + 485) * 2 ^ 52 + f.root); steps = f.steps })
    (is m k c.requires.0 c.requires.1 c.near_root-found.result c.near_root-found.ensures)
