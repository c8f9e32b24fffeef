-- 01: "For each, show that any two outcomes allowed by it agree". An outcome is the answer, a record included, and what each lent slice
-- that is written holds at exit. A contract is read as the check reads it: `Post` of a function's `Reads` is the claim of its `ensures`, by
-- the lifetimes κs of what is lent, the arguments, the answer and what is lent at exit. Definitions only.
use Rattle.std.specs.Prelude.{◌≡◌}

module _ {Lent : Type 0} {Arguments Answer Exit : Lent → Type 0} (Post : (κs : Lent) → Arguments κs → Answer κs → Exit κs → Type 0) where
  -- a contract that determines the answer, where no lent slice is written
  abbrev pub OneAnswer : Type 0
  OneAnswer = (κs : Lent) (a : Arguments κs) (x y : Answer κs) (s t : Exit κs) → Post κs a x s → Post κs a y t → x ≡ y

  -- .. and what `seen` reads of the lent slices at exit
  abbrev pub OneOutcome : {A : Type 0} → ((κs : Lent) → Exit κs → A) → Type 0
  OneOutcome seen =
      (κs : Lent) (a : Arguments κs) (x y : Answer κs) (s t : Exit κs)
      → Post κs a x s → Post κs a y t → (x ≡ y) × (seen κs s ≡ seen κs t)
