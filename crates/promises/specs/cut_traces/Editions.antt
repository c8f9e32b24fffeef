-- 02, Order 9: "New traces are edition 3, with the rule (u32) after dim2". So no record of edition 3 is one of edition 1 or 2, whatever
-- bytes it holds, nor the other way round. Statements; proofs/cut_traces/Editions has the proofs.
use Rattle.std.specs.Prelude.{ℕ, ◌≡◌, true, false, List, []}
use Rattle.trace_layout.specs.Records.{laid_at}
use Rattle.trace.specs.whole.Whole.{whole_records}

pub record Apart : Type 0 where
  pub third_is_no_other : (e : ℕ) (t : List ℕ) → (e ≡ 3 → ⊥) → laid_at 3 t ≡ true → laid_at e t ≡ false
  pub other_is_no_third : (e : ℕ) (t : List ℕ) → (e ≡ 3 → ⊥) → laid_at e t ≡ true → laid_at 3 t ≡ false
  -- editions 1 and 2 have one layout
  pub first_is_second : (t : List ℕ) → laid_at 1 t ≡ laid_at 2 t
  -- so a rescue by the other layout keeps nothing of bytes that begin with a record
  pub third_by_other : (e : ℕ) (t : List ℕ) → (e ≡ 3 → ⊥) → laid_at 3 t ≡ true → whole_records e t ≡ []
  pub other_by_third : (e : ℕ) (t : List ℕ) → (e ≡ 3 → ⊥) → laid_at e t ≡ true → whole_records 3 t ≡ []
