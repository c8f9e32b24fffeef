-- What a completed update is made of. Statements only; proofs/update/Updates proves them.
use Rattle.std.specs.Prelude.{ℕ, ◌+◌, ◌≤◌, ◌<◌, ◌≡◌, List, Float, length, take}
use Rattle.double.specs.Operators.{at}
use Rattle.double.specs.Numbers.{#0}
use Rattle.cone.specs.declared.Cone.{Cone}
use Rattle.cone.specs.declared.Wide.{Wide}
use Rattle.cone.specs.declared.Scaling.{Scaling}
use Rattle.cone.specs.Fresh.{no_three, no_wide}
use Rattle.call_record.specs.update.Entries.{update_rows, update_scaling_of}

-- 02, Order 6: "An update now depends on its cone, its arguments and the old serial, nothing else of the old record."
-- Where an update of r is completed, one of any record with the same cone and serial that the rows let through gives the same answer.
abbrev pub SameAnswer : Type 0
SameAnswer =
    (r r' : Scaling) (s z : List Float) (μ : Float) (k : ℕ)
    → r.cone ≡ r'.cone
    → r.serial ≡ r'.serial
    → (update_scaling_of r s z μ k).code ≡ 0
    → update_rows r' s z μ k ≡ 0
    → update_scaling_of r s z μ k ≡ update_scaling_of r' s z μ k

-- 01: "and returns the scaling record bit for bit". A refused update hands back the record that it was given
abbrev pub RefusedKeeps : Type 0
RefusedKeeps =
    (r : Scaling) (s z : List Float) (μ : Float) (k : ℕ)
    → ((update_scaling_of r s z μ k).code ≡ 0 → ⊥)
    → (update_scaling_of r s z μ k).scaling ≡ r

-- +0 behind the places that kind 3 uses: dim1 + dim2 of z, the gradient and p, dim1 of q and d1, dim2 of r.
-- r holds the numbers behind the exponents in use; these are dim1, since a cone has 32 places for them.
pub record Unused (c : Cone) (w : Wide) : Type 0 where
  pub z_behind : (i : ℕ) → c.dim1 + c.dim2 ≤ i → i < 64 → at w.z i ≡ #0
  pub grad_behind : (i : ℕ) → c.dim1 + c.dim2 ≤ i → i < 64 → at w.grad i ≡ #0
  pub p_behind : (i : ℕ) → c.dim1 + c.dim2 ≤ i → i < 64 → at w.p i ≡ #0
  pub q_behind : (i : ℕ) → c.dim1 ≤ i → i < 32 → at w.q i ≡ #0
  pub r_behind : length c.exps ≡ 32 → (i : ℕ) → c.dim2 ≤ i → i < 32 → at w.r i ≡ #0
  pub d1_behind : (i : ℕ) → c.dim1 ≤ i → i < 32 → at w.d1 i ≡ #0

-- A completed update was scaled, keeps its cone and has the next serial; it is of this call, and the numbers of the other kinds are +0.
-- 02, Order 6: "one more after each completed update"
-- 01: "Places that a kind does not use are neither read nor judged, and those of the record's numbers are +0 after an update."
-- 01, programs to reject: "one that scales at the first call and afterwards returns that first record (same rule, at each call)"
pub record Made (old new : Scaling) (z : List Float) (μ : Float) : Type 0 where
  pub keeps_cone : new.cone ≡ old.cone
  pub was_scaled : new.scaled ≡ 1
  pub one_more : new.serial ≡ old.serial + 1
  -- the point of this call; behind it kind 3 has +0 (`unused`)
  pub three_z : (old.cone.kind ≡ 3 → ⊥) → new.three.z ≡ z
  pub wide_z : old.cone.kind ≡ 3 → take (old.cone.dim1 + old.cone.dim2) new.wide.z ≡ z
  pub no_wide : (old.cone.kind ≡ 3 → ⊥) → new.wide ≡ no_wide
  pub no_three : old.cone.kind ≡ 3 → new.three ≡ no_three
  pub wide_mu : old.cone.kind ≡ 3 → new.wide.mu ≡ μ
  pub unused : old.cone.kind ≡ 3 → Unused old.cone new.wide

abbrev pub CompletedMakes : Type 0
CompletedMakes =
    (r : Scaling) (s z : List Float) (μ : Float) (k : ℕ)
    → (update_scaling_of r s z μ k).code ≡ 0
    → Made r (update_scaling_of r s z μ k).scaling z μ
