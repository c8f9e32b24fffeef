-- What is left to move: the begin of the loop, a turn and its end, for both ways of moving. Within one slice, what is still to be read is
-- as it was. Assumes nothing.
use mathlib.Core.Path.{◌≡◌, refl, sym, ap, ◌∙◌}
use mathlib.Core.List.{List, [], ◌∷◌}
use Prim.Native.Nat.{ℕ, suc, ◌+◌, ◌-◌, ◌≤◌, ◌<◌}
use native.Mathlib.Omega.{arith}
use native.Mathlib.Numerals.{add-one}
use lib.ListN.{length, take, drop, get_or, set, length-set, drop_of_length-le}
use lib.Seq.{sets, length-sets, length-take-le, drop-cons, drop-drop, drop-set-lt, get_or-take, get_or-drop}
use Rattle.octets.proofs.words.Stores.{sets_after}
use Rattle.trace_thin.specs.firsts.Pieces.{piece_of, piece_at, pieces_at, joined, offsets, Ahead}
use Rattle.trace_thin.proofs.firsts.Pieces.{own_bytes, length-joined}

-- ---- what was written leaves what lies behind

pub drop_sets : (vs l : List ℕ) (i k : ℕ) → i + length vs ≤ k → drop k (sets l i vs) ≡ drop k l
drop_sets [] l i k h = refl
drop_sets (v ∷ vs) l i k h = drop_sets vs (set l i v) (suc i) k (omega arith) ∙ drop-set-lt k l i v (omega arith)

-- two lists that are equal from a place on are equal from a later one on, and at it
pub later : (xs ys : List ℕ) (i k : ℕ) → drop i xs ≡ drop i ys → i ≤ k → drop k xs ≡ drop k ys
later xs ys i k e h =
    let split : k ≡ i + (k - i) = omega arith in
    rw split (sym (drop-drop (k - i) i xs) ∙ ap (drop (k - i)) e ∙ drop-drop (k - i) i ys)

pub same_at : (xs ys : List ℕ) (i k : ℕ) → drop i xs ≡ drop i ys → i ≤ k → get_or xs k 0 ≡ get_or ys k 0
same_at xs ys i k e h =
    let split : i + (k - i) ≡ k = omega arith in
    rw split at (sym (get_or-drop i xs (k - i) 0) ∙ ap (λ (l : List ℕ). get_or l (k - i) 0) e ∙ get_or-drop i ys (k - i) 0)

-- ---- the places that are left, and the pieces there

abbrev pub unmoved : List ℕ → ℕ → ℕ → List ℕ
unmoved places kept j = drop j (take kept places)

module _ (places : List ℕ) (kept j : ℕ) (fits : kept ≤ length places) where
  pub next_place : j < kept → unmoved places kept j ≡ get_or places j 0 ∷ unmoved places kept (j + 1)
  next_place more =
      drop-cons (take kept places) j 0 (omega (arith, length-take-le kept places fits)) ∙ rw (get_or-take kept places j 0 more, add-one j)

  pub no_place : kept ≤ j → unmoved places kept j ≡ []
  no_place late = drop_of_length-le (take kept places) {i = j} (omega (arith, length-take-le kept places fits))

pub record Moved (b places₀ places base out : List ℕ) (kept j to : ℕ) : Type 0 where
  pub done : j ≤ kept
  pub fits : kept ≤ length places₀
  pub room : length places ≡ length places₀
  pub same_size : length out ≡ length base
  pub unread : drop j places ≡ drop j places₀
  pub ended : to + length (joined (pieces_at b (unmoved places₀ kept j))) ≡ length (joined (pieces_at b (take kept places₀)))
  pub so_far : sets out to (joined (pieces_at b (unmoved places₀ kept j))) ≡ sets base 0 (joined (pieces_at b (take kept places₀)))
  pub listed : sets places j (offsets to (pieces_at b (unmoved places₀ kept j)))
      ≡ sets places₀ 0 (offsets 0 (pieces_at b (take kept places₀)))

pub moving : (b places base : List ℕ) (kept : ℕ) → kept ≤ length places → Moved b places places base base kept 0 0
moving b places base kept h = record {
  done = omega arith;
  fits = h;
  room = refl;
  same_size = refl;
  unread = refl;
  ended = omega arith;
  so_far = refl;
  listed = refl;
}

module _ (b places₀ places base out : List ℕ) (kept j to : ℕ) (m : Moved b places₀ places base out kept j to) where
  module _ (more : j < kept) where
    abbrev s : ℕ
    s = get_or places₀ j 0

    abbrev p : List ℕ
    p = piece_at b s

    abbrev rest : List (List ℕ)
    rest = pieces_at b (unmoved places₀ kept (j + 1))

    -- the place is as it was
    pub place_read : get_or places j 0 ≡ s
    place_read = same_at places places₀ j j m.unread (omega arith)

    next-piece : pieces_at b (unmoved places₀ kept j) ≡ p ∷ rest
    next-piece = ap (pieces_at b) (next_place places₀ kept j m.fits more)

    size-left : length (joined (pieces_at b (unmoved places₀ kept j))) ≡ length p + length (joined rest)
    size-left = ap (λ (l : List (List ℕ)). length (joined l)) next-piece ∙ length-joined p rest

    -- a piece has room where all have
    pub piece_fits : length (joined (pieces_at b (take kept places₀))) ≤ length base → to + length p ≤ length out
    piece_fits h = omega (arith, m.ended, size-left, m.same_size)

    module _ (out' : List ℕ) (n : ℕ) (wrote : out' ≡ sets out to p) (long : n ≡ length p) where
      pub moved : Moved b places₀ (set places j to) base out' kept (j + 1) (to + n)
      unfolding joined offsets
      moved = record {
        done = omega arith;
        fits = m.fits;
        room = length-set places j to ∙ m.room;
        same_size = ap length wrote ∙ length-sets out to p ∙ m.same_size;
        unread =
            let next : j < j + 1 = omega arith in
            drop-set-lt (j + 1) places j to next ∙ later places places₀ j (j + 1) m.unread (omega arith);
        ended = omega (arith, m.ended, size-left);
        so_far =
            rw (wrote, long) (sets_after p (joined rest) out to)
            ∙ ap (λ (l : List (List ℕ)). sets out to (joined l)) (sym next-piece) ∙ m.so_far;
        listed =
            ap (λ (k : ℕ). sets (set places j to) (j + 1) (offsets (to + k) rest)) long
            ∙ ap (λ (k : ℕ). sets (set places j to) k (offsets (to + length p) rest)) (add-one j)
            ∙ ap (λ (l : List (List ℕ)). sets places j (offsets to l)) (sym next-piece) ∙ m.listed;
      }

  -- the end: nothing is left
  module _ (late : kept ≤ j) where
    nothing_left : unmoved places₀ kept j ≡ []
    nothing_left = no_place places₀ kept j m.fits late

    pub all_moved : out ≡ sets base 0 (joined (pieces_at b (take kept places₀)))
    unfolding joined
    all_moved = rw nothing_left at m.so_far

    pub all_listed : places ≡ sets places₀ 0 (offsets 0 (pieces_at b (take kept places₀)))
    unfolding offsets
    all_listed = rw nothing_left at m.listed

-- ---- within one slice

pub record MovedDown (places₀ places base out : List ℕ) (kept j to : ℕ) : Type 0 where
  pub moved : Moved base places₀ places base out kept j to
  -- what lies at `to` and behind it is as it was
  pub unwritten : drop to out ≡ drop to base
  pub ahead : Ahead base to (unmoved places₀ kept j)

module _ (places₀ places base out : List ℕ) (kept j to : ℕ) (m : MovedDown places₀ places base out kept j to) (more : j < kept) where
  abbrev from : ℕ
  from = get_or places₀ j 0

  next-ahead : (to ≤ from) × (from ≤ length base) × Ahead base (to + length (piece_at base from)) (unmoved places₀ kept (j + 1))
  unfolding Ahead
  next-ahead = rw (next_place places₀ kept j m.moved.fits more) at m.ahead

  pub downwards : to ≤ from
  downwards = next-ahead.0

  pub from_inside : from ≤ length out
  from_inside = omega (arith, next-ahead.1, m.moved.same_size)

  pub unread_piece : piece_at out from ≡ piece_at base from
  unread_piece = ap piece_of (later out base to from m.unwritten downwards)

  module _ (out' : List ℕ) (n : ℕ) (long : n ≡ length (piece_at out from)) (slid : out' ≡ sets out to (take n (drop from out))) where
    wrote : out' ≡ sets out to (piece_at base from)
    wrote = slid ∙ ap (sets out to) (ap (λ (k : ℕ). take k (drop from out)) long ∙ own_bytes (drop from out) ∙ unread_piece)

    size : n ≡ length (piece_at base from)
    size = long ∙ ap length unread_piece

    pub moved_down : MovedDown places₀ (set places j to) base out' kept (j + 1) (to + n)
    moved_down = record {
      moved = moved base places₀ places base out kept j to m.moved more out' n wrote size;
      unwritten =
          ap (drop (to + n)) wrote ∙ drop_sets (piece_at base from) out to (to + n) (omega (arith, size))
          ∙ later out base to (to + n) m.unwritten (omega arith);
      ahead = rw size next-ahead.2;
    }
