-- Without a word, the program asks for an edition where the file does not end in a known one. Assumes nothing.
use mathlib.Core.Path.{◌≡◌, refl}
use mathlib.Core.Bool.{false}
use mathlib.Core.List.{List}
use Prim.Native.Nat.{ℕ}
use Rattle.trace_layout.specs.Traces.{too_large, known}
use Rattle.trace_rescue.specs.call.Rescue.{ends_known, rescue_of}
use Rattle.trace_rescue.proofs.call.Rescues.{editions}
use Rattle.rescue.specs.declared.Deed.TheVariants.{Ask}
use Rattle.rescue.specs.Deeds.{edition_named, number_of, deed_by, deed_of}

none-known : known 0 ≡ false
unfolding known
none-known = refl

pub asks : (bs old word : List ℕ) → too_large bs ≡ false → ends_known bs ≡ false
    → deed_of (edition_named false word) bs (rescue_of bs old (number_of (edition_named false word))).answer ≡ Ask
unfolding deed_of deed_by edition_named number_of
asks bs old word small untold = rw (small, editions.other bs old 0 untold none-known)
