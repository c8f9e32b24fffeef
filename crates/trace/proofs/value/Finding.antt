-- What `Found::find` hands back is what the reader finds. Assumes nothing.
use mathlib.Core.Path.{◌≡◌, sym}
use mathlib.Core.List.{List}
use Prim.Native.Nat.{ℕ}
use lib.ListN.{drop}
use Rattle.std.specs.Prelude.{Option, Some, None, IfSome, option_map}
use Rattle.trace.specs.declared.value.Found.{Found}
use Rattle.trace.specs.reader.Reading.{found_from}

module _ (bs : List ℕ) (at e : ℕ) (o : Option Found) (shape : option_map (λ (f : Found). f.shape) o ≡ found_from bs at e) where
  pub find_none : o ≡ None → found_from bs at e ≡ None
  find_none h = sym (rw h at shape)

  pub find_some : (f : Found) → o ≡ Some f → found_from bs at e ≡ Some f.shape
  find_some f h = sym (rw h at shape)

  pub find_of : IfSome o (λ (f : Found). (f.edition ≡ e) × (f.bytes.now ≡ drop at bs)) → (f : Found) → o ≡ Some f
      → (f.edition ≡ e) × (f.bytes.now ≡ drop at bs)
  find_of of f h = rw h at of
