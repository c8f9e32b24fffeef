-- `locate` meets its contract: below ½ the digits are shifted down, from ½ on up, and nothing is lost there. Assumes nothing.
use Rattle.std.proofs.Common.{◌≡◌, ℕ, ◌+◌, ◌-◌, ◌*◌, ◌%◌, ◌^◌, ◌<◌, ◌≤◌, Bool, true, false, cond, sym, ap, ◌∙◌, subst, arith, rules}
use Rattle.double.specs.Fields.{mag}
use Rattle.exponential.specs.Steps.{home, raised, point_of}
use Rattle.exponential.specs.declared.place.Point.{Point}
use Rattle.exponential.proofs.Shifts.{low_positive, low_negative, high_positive, high_negative, field_of_normal, shift_fits}
use Rattle.exponential.proofs.Shifts.{units-most}
use Rattle.exponential.proofs.place.locate.Goals as goal
use Rattle.exponential.proofs.place.locate.Goals.{Else-f-lt1022}

-- the answer at the sign that a test has found
by_sign : {p : Point} {r s : Bool} (a : ℕ) → r ≡ s → p ≡ point_of (raised s a (2 ^ 1074)) → p ≡ point_of (raised r a (2 ^ 1074))
by_sign a e h = h ∙ ap (λ (z : Bool). point_of (raised z a (2 ^ 1074))) (sym e)

down_fits : (n : ℕ) → n ≤ 708 * 2 ^ 53 → n ≤ home
down_fits n h = omega arith

up_fits : (n : ℕ) → n ≤ 709 * 2 ^ 53 → home + n < 2 ^ 64
up_fits n h = omega arith

-- from ½ on: what the code shifts to the left is small, so that nothing is lost
module _ (c : Else-f-lt1022) where
  abbrev f : ℕ
  f = c.args.f

  abbrev t : ℕ
  t = c.args.t

  field_small : f ≤ 1032
  field_small = field_of_normal _ f t c.requires

  kept : (2 ^ 52 + t) * 2 ^ (f - 1022) % 2 ^ 64 ≡ (2 ^ 52 + t) * 2 ^ (f - 1022)
  kept = shift_fits f t c.if-f-lt1022.false field_small c.requires.digits

  units_small : (n : ℕ) → mag f t ≤ n * 2 ^ 1074 → (2 ^ 52 + t) * 2 ^ (f - 1022) % 2 ^ 64 ≤ n * 2 ^ 53
  units_small n h = subst (λ (x : ℕ). x ≤ n * 2 ^ 53) (sym kept) (units-most f t n c.if-f-lt1022.false h)

  most : (s : Bool) → c.args.negative ≡ s → mag f t ≤ cond s 708 709 * 2 ^ 1074
  most s e = subst (λ (b : Bool). mag f t ≤ cond b 708 709 * 2 ^ 1074) e c.requires.most

pub returns-then-negative : goal.returns-then-negative
returns-then-negative c = by_sign _ c.if-negative.true (low_negative _ _ _ (search rules) (search rules) (search rules) c.shifted-s.ensures)

pub returns-then-f-lt1022 : goal.returns-then-f-lt1022
returns-then-f-lt1022 c = by_sign _ c.if-negative.false (low_positive _ _ _ (search rules) (search rules) c.shifted-s-then-f-lt1022.ensures)

pub overflow_shl-n : goal.overflow_shl-n
overflow_shl-n c = go (field_small c)
  where
    go : {n : ℕ} → n ≤ 1032 → n - 1022 < 64
    go h = omega arith

pub overflow_sub-result-then-negative-2-2 : goal.overflow_sub-result-then-negative-2-2
overflow_sub-result-then-negative-2-2 c = down_fits _ (units_small c.before 708 (most c.before true c.if-negative-2.true))

pub returns-then-negative-2 : goal.returns-then-negative-2
returns-then-negative-2 c =
    by_sign _ c.if-negative-2.true (high_negative _ _ _ c.if-f-lt1022.false
    (down_fits _ (units_small c.before 708 (most c.before true c.if-negative-2.true))) (kept c.before))

pub overflow_add-result-2 : goal.overflow_add-result-2
overflow_add-result-2 c = record { fits = up_fits _ (units_small c.before 709 (most c.before false c.if-negative-2.false)) }

pub returns : goal.returns
returns c = by_sign _ c.if-negative-2.false (high_positive _ _ _ c.if-f-lt1022.false (kept c.before))
