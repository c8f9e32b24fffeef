-- Bytes moved down within one slice: a turn of the loop. Assumes nothing.
use mathlib.Core.Path.{◌≡◌, refl, sym, ap, ◌∙◌}
use mathlib.Core.List.{List}
use Prim.Native.Nat.{ℕ, ◌+◌, ◌-◌, ◌≤◌, ◌<◌}
use native.Mathlib.Omega.{arith}
use lib.ListN.{length, take, drop, get_or, set, length-set, length-drop, length-take, drop_of_length-le}
use lib.Seq.{sets, drop-set-lt, length-take-le, get_or-take, get_or-drop}
use Rattle.octets.proofs.words.Stores.{copied}
use Rattle.trace_thin.proofs.firsts.Moving.{later, same_at}

-- after i bytes: those that are left, written, give what the call is to leave; what lies behind is as it was
pub record Slid (base bytes : List ℕ) (to from n i : ℕ) : Type 0 where
  pub done : i ≤ n
  pub same_size : length bytes ≡ length base
  pub unwritten : drop (to + i) bytes ≡ drop (to + i) base
  pub so_far : sets bytes (to + i) (drop i (take n (drop from base))) ≡ sets base to (take n (drop from base))

pub sliding : (base : List ℕ) (to from n : ℕ) → Slid base base to from n 0
sliding base to from n =
    let z : to + 0 ≡ to = omega arith in record { done = omega arith; same_size = refl; unwritten = refl; so_far = rw z }

module _ (base bytes : List ℕ) (to from n i : ℕ) (s : Slid base bytes to from n i) where
  module _ (more : i < n) (downwards : to ≤ from) (inside : from + n ≤ length base) where
    abbrev row : List ℕ
    row = take n (drop from base)

    row-length : length row ≡ n
    row-length = length-take-le n (drop from base) (omega (arith, length-drop from base))

    read : get_or bytes (from + i) 0 ≡ get_or row i 0
    read =
        same_at bytes base (to + i) (from + i) s.unwritten (omega arith)
        ∙ sym (get_or-take n (drop from base) i 0 more ∙ get_or-drop from base i 0)

    pub slid : Slid base (set bytes (to + i) (get_or bytes (from + i) 0)) to from n (i + 1)
    slid = record {
      done = omega arith;
      same_size = length-set bytes (to + i) (get_or bytes (from + i) 0) ∙ s.same_size;
      unwritten =
          drop-set-lt (to + (i + 1)) bytes (to + i) (get_or bytes (from + i) 0) (omega arith)
          ∙ later bytes base (to + i) (to + (i + 1)) s.unwritten (omega arith);
      so_far = rw read (copied bytes row to i (omega (arith, row-length)) ∙ s.so_far);
    }

  pub slid_all : n ≤ i → bytes ≡ sets base to (take n (drop from base))
  slid_all late =
      let row = take n (drop from base) in
      ap (sets bytes (to + i)) (sym (drop_of_length-le row {i = i} (omega (arith, length-take n (drop from base))))) ∙ s.so_far
