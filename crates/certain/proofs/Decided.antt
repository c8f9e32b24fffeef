-- A residue above its margin, or below minus its margin, tells the sign of the exact number: b·L + x in units. And what an answer says of
-- its tests. Assumes nothing.
use mathlib.Core.Path.{◌≡◌, refl, sym, subst}
use mathlib.Core.Bool.{Bool, true, false, cond}
use Prim.Native.Nat.{ℕ, ◌+◌, ◌*◌, ◌^◌, ◌<◌}
use native.Mathlib.Nat.{le-add_right}
use native.Mathlib.Omega.{arith}
use lib.Dec.{T}
use lib.Pow.{pow_pos}
use lib.Ieee.{Float, binary64, neg}
use Rattle.arith.proofs.Branches.{false_not_true}
use Rattle.double.specs.Operators.{◌≺◌}
use Rattle.series.specs.Series.{Signed}
use Rattle.cone.specs.declared.verdict.Answer.{Answer}
use Rattle.cone.specs.declared.verdict.Answer.TheVariants.{No, Yes, Undecided}
use Rattle.cone.specs.verdict.Answers.{told_of, judged, is_yes}
use Rattle.rounding.specs.errors.Errors.{above, below}
use Rattle.rounding.proofs.errors.Added.{neg_units}
use Rattle.rounding.proofs.errors.Ordered.{lt_units}
use Rattle.certain.proofs.DecisionSum.{above-sum}
use Rattle.certain.proofs.Logarithms.{LogNear}
use Rattle.certain.proofs.Margins.{Weighed}
use Rattle.certain.proofs.Residues.{ResidueNear}

module _
    (l r m : Float) (x : Signed) (n : LogNear l x) (b c xp xm : ℕ) (po : 0 < x.over)
    (res : ResidueNear r b n.units c (above n.sign n.units) (below n.sign n.units) xp xm)
    (w : Weighed m b n.units c) where
  abbrev rp : ℕ
  rp = above res.sign res.units

  abbrev rm : ℕ
  rm = below res.sign res.units

  pub above_decided : T (m ≺ r) → b * x.less + xm * x.over < b * x.plus + xp * x.over
  above_decided t =
      above-sum b (2 ^ 1074) x.over n.units rp rm (above n.sign n.units) (below n.sign n.units) xp xm x.plus x.less
      w.units _ (pow_pos 1074) po
      res.not-above n.not-above (le-add_right _ _) w.heavy
      (turned w.units rm rp (lt_units binary64 m r false res.sign w.units res.units w.is res.is t))
    where
      turned : (u q p : ℕ) → u + q < p + 0 → q + u < p
      turned u q p h = omega arith

  pub below_decided : T (r ≺ neg m) → b * x.plus + xp * x.over < b * x.less + xm * x.over
  below_decided t =
      above-sum b (2 ^ 1074) x.over n.units rm rp (below n.sign n.units) (above n.sign n.units) xm xp x.less x.plus
      w.units _ (pow_pos 1074) po
      res.not-below n.not-below (le-add_right _ _) w.heavy
      (turned w.units rp rm (lt_units binary64 r (neg m) res.sign true res.units w.units res.is
      (neg_units binary64 m false w.units w.is) t))
    where
      turned : (u p q : ℕ) → p + u < 0 + q → p + u < q
      turned u p q h = omega arith

-- ---- what an answer says of its tests

is_no : Answer → Bool
is_no No = true
is_no Yes = false
is_no Undecided = false

pub yes_tests : (signs : Bool) (res margin : Float) → judged signs res margin ≡ Yes → (signs ≡ true) × T (margin ≺ res)
unfolding told_of
yes_tests signs res margin e = go signs (margin ≺ res) (res ≺ neg margin) (subst (λ (a : Answer). T (is_yes a)) (sym e) tt)
  where
    go : (s a b : Bool) → T (is_yes (cond s (cond a Yes (cond b No Undecided)) No)) → (s ≡ true) × T a
    go true true b t = (refl, tt)
    go true false true t = absurd t
    go true false false t = absurd t
    go false a b t = absurd t

pub no_tests : (signs : Bool) (res margin : Float) → signs ≡ true → judged signs res margin ≡ No → T (res ≺ neg margin)
unfolding told_of is_no
no_tests signs res margin p e = go signs (margin ≺ res) (res ≺ neg margin) p (subst (λ (a : Answer). T (is_no a)) (sym e) tt)
  where
    go : (s a b : Bool) → s ≡ true → T (is_no (cond s (cond a Yes (cond b No Undecided)) No)) → T b
    go true true b p t = absurd t
    go true false true p t = tt
    go true false false p t = absurd t
    go false a b p t = absurd (false_not_true p)
