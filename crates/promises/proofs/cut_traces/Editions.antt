-- A record says its length, and by the two layouts that length differs: the rule has four bytes, and what else may differ, the settings
-- behind the flag, has 16. Assumes nothing.
use Prim.Native.Nat.{ℕ, ◌+◌, ◌*◌}
use mathlib.Core.Path.{◌≡◌, refl}
use mathlib.Core.Bool.{Bool, true, false, cond}
use mathlib.Core.List.{List}
use native.Mathlib.Omega.{arith}
use lib.Dec.{eqb}
use borrow.Author.Tests.{ne_eqb}
use Rattle.octets.specs.words.Runs.{runs_size}
use Rattle.trace_layout.specs.Records.{rules_in, settings_in, exponents, runs_for, flag_place, kind_at, dim1_at, dim2_at, flag_at, size_at, laid_at}
use Rattle.trace_layout.specs.Traces.{most_records}
use Rattle.trace_layout.proofs.Records.{found}
use Rattle.trace.proofs.whole.Whole.{no_more}
use Rattle.promises.specs.cut_traces.Editions.{Apart}

no_rule : (e : ℕ) → (e ≡ 3 → ⊥) → rules_in e ≡ 0
unfolding rules_in
no_rule e n = rw (ne_eqb e 3 n)

one-rule : rules_in 3 ≡ 1
unfolding rules_in
one-rule = refl

-- 0 or 2 settings
pairs : (flag : ℕ) → settings_in flag ≡ 2 * cond (eqb flag 0) 1 0
unfolding settings_in
pairs flag = go (eqb flag 0)
  where
    go : (b : Bool) → cond b 2 0 ≡ 2 * cond b 1 0
    go true = refl
    go false = refl

size_is : (e : ℕ) (t : List ℕ)
    → size_at e t ≡ 56 + 4 * rules_in e + 8 * exponents (kind_at t) (dim1_at t) + 8 * settings_in (flag_at e t) + 32 * (dim1_at t + dim2_at t)
unfolding runs_for runs_size
size_is e t = omega arith

lengths_differ : (x y : Bool) (n : ℕ) → n + 4 + 16 * cond x 1 0 ≡ n + 16 * cond y 1 0 → ⊥
lengths_differ true true n h = omega arith
lengths_differ true false n h = omega arith
lengths_differ false true n h = omega arith
lengths_differ false false n h = omega arith

-- both at once would have one length
not-both : (e : ℕ) (t : List ℕ) → (e ≡ 3 → ⊥) → laid_at 3 t ≡ true → laid_at e t ≡ true → ⊥
not-both e t n three other =
    lengths_differ (eqb (flag_at 3 t) 0) (eqb (flag_at e t) 0) (56 + 8 * exponents (kind_at t) (dim1_at t) + 32 * (dim1_at t + dim2_at t))
    (omega (
      arith,
      (found 3 t three).size,
      (found e t other).size,
      size_is 3 t,
      size_is e t,
      one-rule,
      no_rule e n,
      pairs (flag_at 3 t),
      pairs (flag_at e t),
    ))

third_alone : (e : ℕ) (t : List ℕ) → (e ≡ 3 → ⊥) → laid_at 3 t ≡ true → (b : Bool) → laid_at e t ≡ b → laid_at e t ≡ false
third_alone e t n three true h = absurd (not-both e t n three h)
third_alone e t n three false h = h

other_alone : (e : ℕ) (t : List ℕ) → (e ≡ 3 → ⊥) → laid_at e t ≡ true → (b : Bool) → laid_at 3 t ≡ b → laid_at 3 t ≡ false
other_alone e t n other true h = absurd (not-both e t n h other)
other_alone e t n other false h = h

one_layout : (t : List ℕ) → laid_at 1 t ≡ laid_at 2 t
unfolding laid_at runs_for flag_place rules_in
one_layout t = refl

pub apart : Apart
apart = record {
  third_is_no_other = λ e t n h. third_alone e t n h (laid_at e t) refl;
  other_is_no_third = λ e t n h. other_alone e t n h (laid_at 3 t) refl;
  first_is_second = one_layout;
  third_by_other = λ e t n h. no_more e most_records t (third_alone e t n h (laid_at e t) refl);
  other_by_third = λ e t n h. no_more 3 most_records t (other_alone e t n h (laid_at 3 t) refl);
}
