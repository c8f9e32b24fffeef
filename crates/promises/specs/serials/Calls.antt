-- 02, Order 6, of the calls of include/spindle.h, by value and over a record in place, whatever their callers pass: of every outcome that a
-- contract allows. Statements; proofs/serials/Calls has the proofs.
use Rattle.std.specs.Prelude.{ℕ, ◌≡◌, List, Float}
use Rattle.cone.specs.declared.Cone.{Cone}
use Rattle.cone.specs.declared.Scaling.{Scaling}
use Rattle.cone.specs.declared.Updated.{Updated}
use Rattle.call_record.specs.update.Updates.{Made}
use Rattle.promises.specs.rules.Entries.{Entry, updated, fresh, update_scaling, get_hs, mul_hs, higher_correction, combined_ds_shift}
use Rattle.promises.specs.demand_one.Calls.{Outcome, number_in, entry, answered}
use Rattle.promises.specs.allowed.Allowed.{Allowed}

-- o is an outcome of the call over the record r
abbrev pub Over : Scaling → Entry → Outcome → Type 0
Over r e o = Allowed (entry e r.cone) o

-- "name the serial they expect": such a call that is done had a record with that serial
abbrev pub HadSerial : Scaling → ℕ → Entry → Type 0
HadSerial r serial e = (o : Outcome) → Over r e o → number_in o ≡ 0 → r.serial ≡ serial

pub record CallsSerials : Type 0 where
  -- "0 when fresh", of a bad cone's record too
  pub fresh : (c : Cone) (u : Updated) → Allowed (entry fresh c) (answered (updated u)) → u.scaling.serial ≡ 0
  -- "one more after each completed update"; and it is of this call (`Made`)
  pub completed : (r : Scaling) (s z : List Float) (μ : Float) (strategy : ℕ) (u : Updated)
      → Over r (update_scaling r s z μ strategy) (answered (updated u)) → u.code ≡ 0 → Made r u.scaling z μ
  -- "unchanged by a refused one": the whole record is
  pub refused : (r : Scaling) (s z : List Float) (μ : Float) (strategy : ℕ) (u : Updated)
      → Over r (update_scaling r s z μ strategy) (answered (updated u)) → (u.code ≡ 0 → ⊥) → u.scaling ≡ r
  -- "An update now depends on its cone, its arguments and the old serial, nothing else of the old record": two completed ones of records
  -- that share these are the same
  pub depends : (r r' : Scaling) (s z : List Float) (μ : Float) (strategy : ℕ) (u u' : Updated)
      → r.cone ≡ r'.cone → r.serial ≡ r'.serial
      → Over r (update_scaling r s z μ strategy) (answered (updated u)) → u.code ≡ 0
      → Over r' (update_scaling r' s z μ strategy) (answered (updated u')) → u'.code ≡ 0 → u ≡ u'
  -- "`get_Hs`, `mul_Hs`, correction and combined shift name the serial they expect"
  pub block : (r : Scaling) (serial : ℕ) (b : List Float) → HadSerial r serial (get_hs r serial b)
  pub product : (r : Scaling) (serial : ℕ) (y x : List Float) → HadSerial r serial (mul_hs r serial y x)
  pub correction : (r : Scaling) (serial : ℕ) (η ds v : List Float) → HadSerial r serial (higher_correction r serial η ds v)
  pub shift : (r : Scaling) (serial : ℕ) (out stepz steps : List Float) (σμ : Float)
      → HadSerial r serial (combined_ds_shift r serial out stepz steps σμ)
