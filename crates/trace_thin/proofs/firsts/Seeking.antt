-- Looking for a piece among those at the places: by its number, then by its bytes. Assumes nothing.
use mathlib.Core.Path.{◌≡◌, sym, ap, ◌∙◌}
use mathlib.Core.Bool.{Bool, true, false, ◌||◌}
use mathlib.Core.List.{List, ◌∷◌, map}
use Prim.Native.Nat.{ℕ}
use lib.ListN.{length, drop, length-map}
use Rattle.std.proofs.lemmas.List.{nil_from_length}
use Rattle.octets.specs.equal_bytes.Equal.{equal_bytes, among, number_of}
use Rattle.octets.proofs.equal_bytes.Equality.{equal_false}
use Rattle.trace_thin.specs.firsts.Pieces.{piece_at, pieces_at}

-- other numbers, other rows
pub other_number : (xs ys : List ℕ) (n m : ℕ) → n ≡ number_of xs → m ≡ number_of ys → (m ≡ n → ⊥) → equal_bytes xs ys ≡ false
other_number xs ys n m h g d = equal_false xs ys (λ e. d (g ∙ ap number_of (sym e) ∙ sym h))

-- the piece at the next place, in front of those that are left
module _ (b p places : List ℕ) (place : ℕ) (ahead next : List ℕ) (step : ahead ≡ place ∷ next)
    (so_far : among p (pieces_at b ahead) ≡ among p (pieces_at b places)) where
  here : among p (pieces_at b places) ≡ (equal_bytes p (piece_at b place) || among p (pieces_at b next))
  unfolding among
  here = sym so_far ∙ ap (λ (l : List ℕ). among p (pieces_at b l)) step

  pub found_here : true ≡ equal_bytes p (piece_at b place) → true ≡ among p (pieces_at b places)
  found_here e = sym (here ∙ ap (λ (t : Bool). t || among p (pieces_at b next)) (sym e))

  pub not-here : false ≡ equal_bytes p (piece_at b place) → among p (pieces_at b next) ≡ among p (pieces_at b places)
  not-here e = sym (here ∙ ap (λ (t : Bool). t || among p (pieces_at b next)) (sym e))

  pub numbers_on : (other : ℕ) (left others : List ℕ) → left ≡ other ∷ others → left ≡ map number_of (pieces_at b ahead)
      → others ≡ map number_of (pieces_at b next)
  numbers_on other left others front e =
      ap (drop 1) (sym front ∙ e ∙ ap (λ (l : List ℕ). map number_of (pieces_at b l)) step)

pub none-ahead : (b ahead left : List ℕ) → length left ≡ 0 → left ≡ map number_of (pieces_at b ahead) → length ahead ≡ 0
none-ahead b ahead left e h =
    sym (ap length h ∙ length-map (pieces_at b ahead) number_of ∙ length-map ahead (piece_at b)) ∙ e

pub not_found : (b p places ahead : List ℕ) → among p (pieces_at b ahead) ≡ among p (pieces_at b places) → length ahead ≡ 0
    → false ≡ among p (pieces_at b places)
unfolding among
not_found b p places ahead so_far e = sym (sym so_far ∙ ap (λ (l : List ℕ). among p (pieces_at b l)) (nil_from_length ahead e))
