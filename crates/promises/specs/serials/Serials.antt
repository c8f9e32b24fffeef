-- 02, Order 6: "Put a serial into the scaling record: 0 when fresh, one more after each completed update, unchanged by a refused one."
-- Statements, of the definitions that the calls' contracts name; proofs/serials/Serials has the proofs.
use Rattle.std.specs.Prelude.{ℕ, ◌+◌, ◌<◌, ◌≡◌, cond, List, [], ◌∷◌, eqb, Float}
use Rattle.cone.specs.declared.Cone.{Cone}
use Rattle.cone.specs.declared.Scaling.{Scaling}
use Rattle.cone.specs.declared.Updated.{Updated}
use Rattle.call_cone.specs.formulas.Entries.{fresh_of}
use Rattle.call_record.specs.update.Entries.{update_scaling_of}
use Rattle.call_record.specs.entries.Entries.{get_hs_of, mul_hs_of, higher_correction_of, combined_ds_shift_of}

-- what an update is given beside its record
pub record Given : Type 0 where
  pub s : List Float
  pub z : List Float
  pub mu : Float
  pub strategy : ℕ

abbrev pub updated : Scaling → Given → Updated
updated r g = update_scaling_of r g.s g.z g.mu g.strategy

-- the record after a row of updates, each of the record that the one before handed back
unfoldable pub after : Scaling → List Given → Scaling
after r [] = r
after r (g ∷ gs) = after (updated r g).scaling gs

-- how many of them were completed
unfoldable pub completed_in : Scaling → List Given → ℕ
completed_in r [] = 0
completed_in r (g ∷ gs) = cond (eqb (updated r g).code 0) 1 0 + completed_in (updated r g).scaling gs

pub record Counts : Type 0 where
  -- "0 when fresh", of a bad cone's record too
  pub fresh : (c : Cone) → (fresh_of c).scaling.serial ≡ 0
  -- "one more after each completed update"
  pub completed : (r : Scaling) (g : Given) → (updated r g).code ≡ 0 → (updated r g).scaling.serial ≡ r.serial + 1
  -- "unchanged by a refused one"
  pub refused : (r : Scaling) (g : Given) → ((updated r g).code ≡ 0 → ⊥) → (updated r g).scaling.serial ≡ r.serial
  -- so after n completed updates of a fresh record, whatever was refused between them, the serial is n
  pub counted : (c : Cone) (gs : List Given) → (after (fresh_of c).scaling gs).serial ≡ completed_in (fresh_of c).scaling gs

-- "`get_Hs`, `mul_Hs`, correction and combined shift name the serial they expect": such a call that is done had a record with that serial
pub record Named (r : Scaling) (serial : ℕ) : Type 0 where
  pub block : (b : List Float) → (get_hs_of r serial b).answer ≡ 0 → r.serial ≡ serial
  pub product : (y x : List Float) → (mul_hs_of r serial y x).answer ≡ 0 → r.serial ≡ serial
  pub correction : (η ds v : List Float) → (higher_correction_of r serial η ds v).answer ≡ 0 → r.serial ≡ serial
  pub shift : (out stepz steps : List Float) (σμ : Float) → (combined_ds_shift_of r serial out stepz steps σμ).answer ≡ 0 → r.serial ≡ serial

-- "Twice a correction was asked for with a record from the round before." None of the four is done with the record r of an earlier round
-- where the caller expects the serial of a later one.
pub record Refuses (r : Scaling) (serial : ℕ) : Type 0 where
  pub block : (b : List Float) → (get_hs_of r serial b).answer ≡ 0 → ⊥
  pub product : (y x : List Float) → (mul_hs_of r serial y x).answer ≡ 0 → ⊥
  pub correction : (η ds v : List Float) → (higher_correction_of r serial η ds v).answer ≡ 0 → ⊥
  pub shift : (out stepz steps : List Float) (σμ : Float) → (combined_ds_shift_of r serial out stepz steps σμ).answer ≡ 0 → ⊥

pub record ToldApart : Type 0 where
  pub named : (r : Scaling) (serial : ℕ) → Named r serial
  pub earlier : (r : Scaling) (gs : List Given) → 0 < completed_in r gs → Refuses r (after r gs).serial
