-- A file above the limit is too large, and no other one is. Assumes nothing.
use mathlib.Core.Path.{◌≡◌}
use mathlib.Core.Bool.{true, false}
use mathlib.Core.List.{List}
use Prim.Native.Nat.{ℕ, ◌<◌, ◌≤◌}
use lib.ListN.{length}
use borrow.Author.Tests.{lt-ltb, le-ltb}
use Rattle.trace_layout.specs.Traces.{most_bytes, too_large}

pub is_large : (bs : List ℕ) → most_bytes < length bs → too_large bs ≡ true
unfolding too_large
is_large bs h = lt-ltb most_bytes (length bs) h

pub is_small : (bs : List ℕ) → length bs ≤ most_bytes → too_large bs ≡ false
unfolding too_large
is_small bs h = le-ltb most_bytes (length bs) h
