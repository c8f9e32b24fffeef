-- The first of each kind. 02, Order 13. Definitions only.
use Rattle.std.specs.Prelude.{ℕ, cond, List, [], ◌∷◌, ◌++◌, map, length, take}
use Rattle.octets.specs.equal_bytes.Equal.{among, number_of}
use Rattle.trace_layout.specs.Traces.{offsets_from}
use Rattle.trace.specs.whole.Whole.{whole_records}
use Rattle.trace_thin.specs.declared.firsts.Chosen.{Chosen}
use Rattle.trace_thin.specs.firsts.Pieces.{piece_at, pieces_at, joined}

-- "a record byte-equal to an earlier kept record is dropped, the others in their old order", whatever a record is, if it has bytes. ks are
-- the bytes of the kept ones so far
unfoldable pub firsts_behind : {A : Type 0} → (A → List ℕ) → List (List ℕ) → List A → List A
firsts_behind bytes ks [] = []
firsts_behind bytes ks (r ∷ rs) =
    cond (among (bytes r) ks) (firsts_behind bytes ks rs) (r ∷ firsts_behind bytes (ks ++ (bytes r ∷ [])) rs)

abbrev pub firsts : {A : Type 0} → (A → List ℕ) → List A → List A
firsts bytes rs = firsts_behind bytes [] rs

-- the places of the whole records before the list
abbrev pub starts_in : List ℕ → ℕ → ℕ → List ℕ
starts_in b list e = offsets_from e 0 (whole_records e (take list b))

-- .. of the first of each kind
abbrev pub firsts_in : List ℕ → ℕ → ℕ → List ℕ
firsts_in b list e = firsts (piece_at b) (starts_in b list e)

-- the numbers by which the pieces at the places are compared first
abbrev pub numbers_at : List ℕ → List ℕ → List ℕ
numbers_at b places = map number_of (pieces_at b places)

-- how many pieces are at the places, and how many bytes they have
unfoldable pub chosen_of : List ℕ → List ℕ → Chosen
chosen_of b places = record { kept = length places; size = length (joined (pieces_at b places)) }

-- the records of which none before, kept or not, has the same bytes; es are the bytes of all before
unfoldable pub new_behind : {A : Type 0} → (A → List ℕ) → List (List ℕ) → List A → List A
new_behind bytes es [] = []
new_behind bytes es (r ∷ rs) =
    cond (among (bytes r) es) (new_behind bytes (es ++ (bytes r ∷ [])) rs) (r ∷ new_behind bytes (es ++ (bytes r ∷ [])) rs)
