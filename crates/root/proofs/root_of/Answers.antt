-- `root_of` meets its contract: the shift by the odd exponent loses nothing, and a root of 53 digits makes no NaN's pattern. Assumes
-- nothing.
use mathlib.Core.Path.{◌≡◌, sym, ap, subst, ◌∙◌}
use Prim.Native.Nat.{ℕ, ◌+◌, ◌*◌, ◌/◌, ◌%◌, ◌^◌, ◌≤◌, ◌<◌}
use native.Mathlib.Omega.{arith}
use lib.Ieee.{binary64, of_bits}
use Rattle.double.proofs.Made.{number}
use Rattle.root.specs.Steps.{near_root, root_of}
use Rattle.root.proofs.AnyWidth.{Rounds}
use Rattle.root.proofs.Radicands.{evened, radicand, root_of-radicand}
use Rattle.root.proofs.root_of.Goals as goal

-- the shift loses nothing
whole : (m k : ℕ) → m < 2 ^ 53 → m * 2 ^ (k % 2) % 2 ^ 64 ≡ m * 2 ^ (k % 2)
whole m k h = omega (arith, (evened m k).most)

-- what the call answers
is : (m k q : ℕ) → m < 2 ^ 53 → q ≡ near_root (m * 2 ^ (k % 2) % 2 ^ 64 * 2 ^ 52) → q ≡ near_root (radicand m k)
is m k q h e = e ∙ ap (λ (d : ℕ). near_root (d * 2 ^ 52)) (whole m k h)

rounds :
    (m k q : ℕ) → 2 ^ 52 ≤ m → m < 2 ^ 53 → q ≡ near_root (m * 2 ^ (k % 2) % 2 ^ 64 * 2 ^ 52) → Rounds (2 ^ 52) (radicand m k) q
rounds m k q l h e = subst (λ (r : ℕ). Rounds (2 ^ 52) (radicand m k) r) (sym (is m k q h e)) (root_of-radicand m k l h)

pub near_root-q-requires : goal.near_root-q-requires
near_root-q-requires c =
    let m = c.args.n.m in
    let k = c.args.n.k in
    omega (arith, whole m k c.requires.1, (evened m k).most)

pub overflow_add-result-2 : goal.overflow_add-result-2
overflow_add-result-2 c =
    omega (arith, (rounds c.args.n.m c.args.n.k c.near_root-q.result c.requires.0 c.requires.1 c.near_root-q.ensures).to)

pub float_from_bits-result : goal.float_from_bits-result
float_from_bits-result c =
    number ((c.args.n.k / 2 + 485) * 2 ^ 52 + c.near_root-q.result)
    (omega (arith, (rounds c.args.n.m c.args.n.k c.near_root-q.result c.requires.0 c.requires.1 c.near_root-q.ensures).to))

pub returns : goal.returns
unfolding root_of
returns c =
    let m = c.args.n.m in
    let k = c.args.n.k in
    ap (λ (q : ℕ). of_bits binary64 ((k / 2 + 485) * 2 ^ 52 + q)) (is m k c.near_root-q.result c.requires.1 c.near_root-q.ensures)
