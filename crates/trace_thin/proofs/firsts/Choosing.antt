-- What is left to choose: the begin of the loop, a turn and its end. Assumes nothing.
use mathlib.Core.Path.{◌≡◌, refl, sym, ap, ◌∙◌}
use mathlib.Core.Bool.{Bool, true, false, cond, not}
use mathlib.Core.List.{List, [], ◌∷◌, ◌++◌, map}
use Prim.Native.Nat.{ℕ, ◌+◌, ◌≤◌, ◌<◌}
use native.Mathlib.Omega.{arith}
use native.Mathlib.Numerals.{add-one}
use lib.ListN.{length, take, drop, get_or, set, length-set}
use lib.Seq.{sets, take-suc-set, drop-set-lt}
use Rattle.octets.specs.equal_bytes.Equal.{among, number_of}
use Rattle.trace_thin.specs.declared.firsts.Chosen.{Chosen}
use Rattle.trace_thin.specs.firsts.Pieces.{piece_at, pieces_at, joined}
use Rattle.trace_thin.specs.firsts.Firsts.{firsts_behind, firsts, chosen_of}
use Rattle.trace_thin.proofs.firsts.Thinning.{firsts-none, firsts_dropped, firsts_kept}
use Rattle.trace_thin.proofs.firsts.Pieces.{length-joined}
use Rattle.trace_thin.proofs.firsts.Moving.{unmoved, next_place, no_place, later, same_at}

map_more : {A B : Type 0} (f : A → B) (xs : List A) (y : A) → map f (xs ++ (y ∷ [])) ≡ map f xs ++ (f y ∷ [])
map_more f [] y = refl
map_more f (x ∷ xs) y = rw (map_more f xs y)

-- the bytes of the pieces at the places
abbrev size_of : List ℕ → List ℕ → ℕ
size_of b places = length (joined (pieces_at b places))

-- the places of the first of each kind
abbrev all_firsts : List ℕ → List ℕ → ℕ → List ℕ
all_firsts b places count = firsts (piece_at b) (take count places)

-- the chosen pieces, and the places that are still to be chosen of those behind i
abbrev pub chosen : List ℕ → List ℕ → ℕ → List (List ℕ)
chosen b places kept = pieces_at b (take kept places)

abbrev pub ahead : ℕ → List ℕ → List ℕ → List ℕ → ℕ → ℕ → List ℕ
ahead count b places₀ places kept i = firsts_behind (piece_at b) (chosen b places kept) (unmoved places₀ count i)

-- what was chosen and what is still to be chosen are the whole choice; the places that are left are as they were
pub record Reached (b : List ℕ) (count : ℕ) (places₀ numbers₀ places numbers : List ℕ) (kept size i : ℕ) : Type 0 where
  pub few : i ≤ count
  pub fits : count ≤ length places₀
  pub fewer : kept ≤ i
  pub room : length places ≡ length places₀
  pub number-room : length numbers ≡ length numbers₀
  pub unread : drop i places ≡ drop i places₀
  pub below : size + size_of b (unmoved places₀ count i) ≤ size_of b (take count places₀)
  pub numbered : take kept numbers ≡ map number_of (chosen b places kept)
  pub counted : kept + length (ahead count b places₀ places kept i) ≡ length (all_firsts b places₀ count)
  pub sized : size + size_of b (ahead count b places₀ places kept i) ≡ size_of b (all_firsts b places₀ count)
  pub placed : sets places kept (ahead count b places₀ places kept i) ≡ sets places₀ 0 (all_firsts b places₀ count)
  pub listed : sets numbers kept (map number_of (pieces_at b (ahead count b places₀ places kept i)))
      ≡ sets numbers₀ 0 (map number_of (pieces_at b (all_firsts b places₀ count)))

pub begun : (b : List ℕ) (count : ℕ) (places numbers : List ℕ) → count ≤ length places
    → Reached b count places numbers places numbers 0 0 0
begun b count places numbers fits = record {
  few = omega arith;
  fits = fits;
  fewer = omega arith;
  room = refl;
  number-room = refl;
  unread = refl;
  below = omega arith;
  numbered = refl;
  counted = omega arith;
  sized = omega arith;
  placed = refl;
  listed = refl;
}

-- n, and k more if so
pub more_so : (x n k : ℕ) (so : Bool) → so ≡ true → x ≡ n + k → x ≡ n + cond so k 0
more_so x n k so is e = rw is e

pub more_not : (x n k : ℕ) (so : Bool) → so ≡ false → x ≡ n → x ≡ n + cond so k 0
more_not x n k so is e = rw is (omega (arith, e))

module _ (b : List ℕ) (count : ℕ) (places₀ numbers₀ places numbers : List ℕ) (kept size i : ℕ)
    (so_far : Reached b count places₀ numbers₀ places numbers kept size i) where
  module _ (early : i < count) where
    abbrev s : ℕ
    s = get_or places i 0

    abbrev p : List ℕ
    p = piece_at b s

    abbrev ks : List (List ℕ)
    ks = chosen b places kept

    abbrev rest : List ℕ
    rest = unmoved places₀ count (i + 1)

    -- the place is as it was
    here : unmoved places₀ count i ≡ s ∷ rest
    here =
        next_place places₀ count i so_far.fits early
        ∙ ap (λ (k : ℕ). k ∷ rest) (sym (same_at places places₀ i i so_far.unread (omega arith)))

    size-here : size_of b (unmoved places₀ count i) ≡ length p + size_of b rest
    size-here = ap (size_of b) here ∙ length-joined p (pieces_at b rest)

    -- its bytes are among all
    pub piece-below : size + length p ≤ size_of b (take count places₀)
    piece-below = omega (arith, so_far.below, size-here)

    -- a piece that is equal to one of the chosen
    module _ (seen : among p ks ≡ true) where
      same_ahead : ahead count b places₀ places kept i ≡ ahead count b places₀ places kept (i + 1)
      same_ahead = ap (firsts_behind (piece_at b) ks) here ∙ firsts_dropped (piece_at b) ks s rest seen

      dropped : Reached b count places₀ numbers₀ places numbers kept size (i + 1)
      dropped = record {
        few = omega arith;
        fits = so_far.fits;
        fewer = omega (arith, so_far.fewer);
        room = so_far.room;
        number-room = so_far.number-room;
        unread = later places places₀ i (i + 1) so_far.unread (omega arith);
        below = omega (arith, so_far.below, size-here);
        numbered = so_far.numbered;
        counted = omega (arith, so_far.counted, ap length same_ahead);
        sized = omega (arith, so_far.sized, ap (size_of b) same_ahead);
        placed = ap (sets places kept) (sym same_ahead) ∙ so_far.placed;
        listed = ap (λ (l : List ℕ). sets numbers kept (map number_of (pieces_at b l))) (sym same_ahead) ∙ so_far.listed;
      }

    -- a piece that is the first of its kind
    module _ (unseen : among p ks ≡ false) (fits : kept < length places) (fits_number : kept < length numbers) where
      abbrev places' : List ℕ
      places' = set places kept s

      abbrev numbers' : List ℕ
      numbers' = set numbers kept (number_of p)

      longer : chosen b places' (kept + 1) ≡ ks ++ (p ∷ [])
      longer =
          ap (λ (k : ℕ). pieces_at b (take k places')) (add-one kept) ∙ ap (pieces_at b) (take-suc-set places kept s fits)
          ∙ map_more (piece_at b) (take kept places) s

      numbered_too : take (kept + 1) numbers' ≡ map number_of (chosen b places' (kept + 1))
      numbered_too =
          ap (λ (k : ℕ). take k numbers') (add-one kept) ∙ take-suc-set numbers kept (number_of p) fits_number
          ∙ ap (λ (l : List ℕ). l ++ (number_of p ∷ [])) so_far.numbered ∙ sym (map_more number_of ks p)
          ∙ ap (map number_of) (sym longer)

      abbrev then : List ℕ
      then = ahead count b places₀ places' (kept + 1) (i + 1)

      more_ahead : ahead count b places₀ places kept i ≡ s ∷ then
      more_ahead =
          ap (firsts_behind (piece_at b) ks) here ∙ firsts_kept (piece_at b) ks s rest unseen
          ∙ ap (λ (l : List (List ℕ)). s ∷ firsts_behind (piece_at b) l rest) (sym longer)

      kept_too : Reached b count places₀ numbers₀ places' numbers' (kept + 1) (size + length p) (i + 1)
      kept_too = record {
        few = omega arith;
        fits = so_far.fits;
        fewer = omega (arith, so_far.fewer);
        room = length-set places kept s ∙ so_far.room;
        number-room = length-set numbers kept (number_of p) ∙ so_far.number-room;
        unread =
            let behind : kept < i + 1 = omega (arith, so_far.fewer) in
            drop-set-lt (i + 1) places kept s behind ∙ later places places₀ i (i + 1) so_far.unread (omega arith);
        below = omega (arith, so_far.below, size-here);
        numbered = numbered_too;
        counted = omega (arith, so_far.counted, ap length more_ahead);
        sized = omega (arith, so_far.sized, ap (size_of b) more_ahead, length-joined p (pieces_at b then));
        placed =
            ap (λ (k : ℕ). sets places' k then) (add-one kept) ∙ ap (sets places kept) (sym more_ahead) ∙ so_far.placed;
        listed =
            ap (λ (k : ℕ). sets numbers' k (map number_of (pieces_at b then))) (add-one kept)
            ∙ ap (λ (l : List ℕ). sets numbers kept (map number_of (pieces_at b l))) (sym more_ahead) ∙ so_far.listed;
      }

    -- as the code goes on
    module _ (fits : kept < length places) (fits_number : kept < length numbers) (new : Bool) (told : new ≡ not (among p ks))
        (places' numbers' : List ℕ) (stored : places' ≡ cond new (set places kept s) places)
        (stored-number : numbers' ≡ cond new (set numbers kept (number_of p)) numbers)
        (n kept' size' : ℕ) (long : n ≡ length p) (counts : kept' ≡ kept + cond new 1 0) (adds : size' ≡ size + cond new n 0) where
      turned_by : (t : Bool) → among p ks ≡ t → Reached b count places₀ numbers₀ places' numbers' kept' size' (i + 1)
      turned_by true e =
          let no : new ≡ false = told ∙ ap not e in
          let same_count : kept' ≡ kept = counts ∙ ap (λ (x : Bool). kept + cond x 1 0) no ∙ omega arith in
          let same_size : size' ≡ size = adds ∙ ap (λ (x : Bool). size + cond x n 0) no ∙ omega arith in
          rw (
            same_count,
            same_size,
            stored ∙ ap (λ (x : Bool). cond x (set places kept s) places) no,
            stored-number ∙ ap (λ (x : Bool). cond x (set numbers kept (number_of p)) numbers) no,
          )
          (dropped e)
      turned_by false e =
          let yes' : new ≡ true = told ∙ ap not e in
          let one_more' : kept' ≡ kept + 1 = counts ∙ ap (λ (x : Bool). kept + cond x 1 0) yes' in
          let grown : size' ≡ size + length p = adds ∙ ap (λ (x : Bool). size + cond x n 0) yes' ∙ ap (λ (k : ℕ). size + k) long in
          rw (
            one_more',
            grown,
            stored ∙ ap (λ (x : Bool). cond x (set places kept s) places) yes',
            stored-number ∙ ap (λ (x : Bool). cond x (set numbers kept (number_of p)) numbers) yes',
          )
          (kept_too e fits fits_number)

      pub turned : Reached b count places₀ numbers₀ places' numbers' kept' size' (i + 1)
      turned = turned_by (among p ks) refl

  -- the end: nothing is left
  module _ (late : count ≤ i) where
    nothing-ahead : ahead count b places₀ places kept i ≡ []
    nothing-ahead =
        ap (firsts_behind (piece_at b) (chosen b places kept)) (no_place places₀ count i so_far.fits late)
        ∙ firsts-none (piece_at b) (chosen b places kept)

    pub all_chosen : ◌≡◌ {A = Chosen} (record { kept = kept; size = size }) (chosen_of b (all_firsts b places₀ count))
    unfolding chosen_of joined
    all_chosen =
        let count-is : kept ≡ length (all_firsts b places₀ count) = omega (arith, so_far.counted, ap length nothing-ahead) in
        let size_is : size ≡ size_of b (all_firsts b places₀ count) = omega (arith, so_far.sized, ap (size_of b) nothing-ahead) in
        rw (count-is, size_is)

    pub all_placed : places ≡ sets places₀ 0 (all_firsts b places₀ count)
    all_placed = ap (sets places kept) (sym nothing-ahead) ∙ so_far.placed

    pub all_listed : numbers ≡ sets numbers₀ 0 (map number_of (pieces_at b (all_firsts b places₀ count)))
    all_listed = ap (λ (l : List ℕ). sets numbers kept (map number_of (pieces_at b l))) (sym nothing-ahead) ∙ so_far.listed
