-- Each update raises the serial by 1 or leaves it, as it was completed or refused, and so a row of updates raises it by the completed ones.
-- A call that is done had no fault, the serial's included. Assumes nothing.
use Prim.Native.Nat.{ℕ, zero, suc, ◌+◌, ◌<◌}
use native.Mathlib.Omega.{arith}
use mathlib.Core.Path.{◌≡◌, refl, ap}
use mathlib.Core.Bool.{Bool, true, false, cond, not}
use mathlib.Core.List.{List, [], ◌∷◌}
use lib.Dec.{eqb}
use lib.Ieee.{Float}
use borrow.Author.Tests.{eqb-true, eqb-false, not-false}
use Rattle.cone.specs.declared.Cone.{Cone}
use Rattle.cone.specs.declared.Scaling.{Scaling}
use Rattle.cone.specs.declared.Updated.{Updated}
use Rattle.cone.specs.Fresh as fresh
use Rattle.cone.specs.table.Table.{settle}
use Rattle.judges.specs.Refusals.{Lent, refuse}
use Rattle.cone.proofs.table.Settled.{no_fault}
use Rattle.call_cone.specs.formulas.Entries.{fresh_of}
use Rattle.call_search.proofs.single.Demand3.{let_through}
use Rattle.call_record.proofs.update.Updates.{refused_keeps, completed_makes}
use Rattle.call_record.specs.entries.Rows.{block_rows, product_rows, correction_rows}
use Rattle.call_record.specs.entries.Entries.{get_hs_of, mul_hs_of, higher_correction_of, combined_ds_shift_of}
use Rattle.promises.specs.serials.Serials.{Given, updated, after, completed_in, Counts, Named, Refuses, ToldApart}

-- ---- counts

fresh-settled
    : (k : ℕ) (a b : Updated)
    → a.scaling.serial ≡ 0
    → b.scaling.serial ≡ 0
    → (settle k a (λ j. record { code = j; scaling = b.scaling })).scaling.serial ≡ 0
unfolding settle
fresh-settled zero a b e f = e
fresh-settled (suc k) a b e f = f

fresh_zero : (c : Cone) → (fresh_of c).scaling.serial ≡ 0
unfolding fresh_of fresh.fresh_of
fresh_zero c =
    let of-cone : Updated = record { code = 0; scaling = fresh.fresh_of c } in
    let of_none : Updated = record { code = 0; scaling = fresh.fresh_of fresh.empty_cone } in
    fresh-settled _ of-cone of_none refl refl

one_more : (r : Scaling) (g : Given) → (updated r g).code ≡ 0 → (updated r g).scaling.serial ≡ r.serial + 1
one_more r g e = (completed_makes r g.s g.z g.mu g.strategy e).one_more

unchanged : (r : Scaling) (g : Given) → ((updated r g).code ≡ 0 → ⊥) → (updated r g).scaling.serial ≡ r.serial
unchanged r g n = ap (λ (x : Scaling). x.serial) (refused_keeps r g.s g.z g.mu g.strategy n)

raised
    : (r : Scaling) (g : Given) (done : Bool)
    → eqb (updated r g).code 0 ≡ done
    → (updated r g).scaling.serial ≡ r.serial + cond done 1 0
raised r g true e = one_more r g (eqb-true _ _ e)
raised r g false e = omega (arith, unchanged r g (eqb-false _ _ e))

serial_after : (r : Scaling) (gs : List Given) → (after r gs).serial ≡ r.serial + completed_in r gs
unfolding after completed_in
serial_after r [] = omega arith
serial_after r (g ∷ gs) =
    let rest = serial_after (updated r g).scaling gs in
    omega (arith, rest, raised r g (eqb (updated r g).code 0) refl)

pub counts : Counts
counts = record {
  fresh = fresh_zero;
  completed = one_more;
  refused = unchanged;
  counted = λ c gs. omega (arith, serial_after (fresh_of c).scaling gs, fresh_zero c);
}

-- ---- rounds told apart

rows-off : (k : ℕ) (d : Lent ℕ) (old : List Float) → (settle k d (refuse old)).answer ≡ 0 → k ≡ 0
rows-off k d old e = let_through (λ (l : Lent ℕ). l.answer) d (refuse old) (λ j. refl) k e

same : (a b : ℕ) → not (eqb a b) ≡ false → a ≡ b
same a b e = eqb-true _ _ (not-false _ e)

pub named : (r : Scaling) (serial : ℕ) → Named r serial
unfolding get_hs_of mul_hs_of higher_correction_of combined_ds_shift_of block_rows product_rows correction_rows
named r serial = record {
  block = λ b e. same _ _ (no_fault _ (rows-off _ _ _ e)).serial;
  product = λ y x e. same _ _ (no_fault _ (rows-off _ _ _ e)).serial;
  correction = λ η ds v e. same _ _ (no_fault _ (rows-off _ _ _ e)).serial;
  shift = λ out stepz steps σμ e. same _ _ (no_fault _ (rows-off _ _ _ e)).serial;
}

module _ (r : Scaling) (gs : List Given) (h : 0 < completed_in r gs) where
  later : r.serial ≡ (after r gs).serial → ⊥
  later e = omega (arith, serial_after r gs)

  refuses : Refuses r (after r gs).serial
  refuses =
      let n = named r (after r gs).serial in
      record {
        block = λ b e. later (n.block b e);
        product = λ y x e. later (n.product y x e);
        correction = λ η ds v e. later (n.correction η ds v e);
        shift = λ out stepz steps σμ e. later (n.shift out stepz steps σμ e);
      }

pub told_apart : ToldApart
told_apart = record { named = named; earlier = refuses }
