-- The records of a trace are pieces: each says its own length. Where the walk found them they lie, what is kept of them can be moved down,
-- can be laid out and has no more bytes. Assumes nothing.
use mathlib.Core.Path.{◌≡◌, refl, sym, ap, ◌∙◌}
use mathlib.Core.Bool.{Bool, true, false}
use mathlib.Core.List.{List, [], ◌∷◌, ◌++◌, map, append_assoc}
use Prim.Native.Nat.{ℕ, ◌+◌, ◌≤◌}
use native.Mathlib.Omega.{arith}
use lib.ListN.{length, take, drop, length-append, length-take, take-append-drop}
use lib.Seq.{take_at, drop_at, drop-drop, take-take}
use Rattle.octets.specs.words.Words.{word_at, AllBelow}
use Rattle.octets.proofs.words.Words.{below-take}
use Rattle.octets.specs.equal_bytes.Equal.{among}
use Rattle.trace_layout.specs.Records.{Record, Laid, Sized, bytes_of, size_in}
use Rattle.trace_layout.specs.Traces.{most_records, records_bytes, offsets_from, AllLaid}
use Rattle.trace_layout.proofs.Records.{found, size_back, laid_back, length-bytes_of}
use Rattle.trace.specs.whole.Whole.{whole_records}
use Rattle.trace.proofs.whole.Whole.{whole_few, whole_laid, whole_prefix, whole_inside}
use Rattle.trace_thin.specs.firsts.Pieces.{piece_of, piece_at, pieces_at, joined, offsets, Ahead}
use Rattle.trace_thin.specs.firsts.Firsts.{firsts_behind, firsts, firsts_in, starts_in}
use Rattle.trace_thin.proofs.firsts.Thinning.{firsts-none, firsts_dropped, firsts_kept, same_firsts}
use Rattle.trace_thin.proofs.firsts.Pieces.{size_inside}

piece_back : (e : ℕ) (r : Record) → Laid e r → Sized r → (rest : List ℕ) → piece_of (bytes_of e r ++ rest) ≡ bytes_of e r
unfolding piece_of
piece_back e r h g rest =
    let t = bytes_of e r ++ rest in
    let size : word_at 4 t 4 ≡ length (bytes_of e r) =
    (found e t (laid_back e r h g rest)).size ∙ size_back e r h g rest ∙ sym (length-bytes_of e r h g rest) in
    rw size (take_at (bytes_of e r) rest (length (bytes_of e r)) refl)

-- ---- records that lie in b from a place on

module _ (e : ℕ) (b rest : List ℕ) where
  abbrev From : ℕ → List Record → Type 0
  From at rs = drop at b ≡ records_bytes e rs ++ rest

  module _ (at : ℕ) (r : Record) (rs : List Record) (laid : Laid e r) (sized : Sized r) (lies : From at (r ∷ rs)) where
    split : drop at b ≡ bytes_of e r ++ (records_bytes e rs ++ rest)
    unfolding records_bytes
    split = lies ∙ append_assoc (bytes_of e r) (records_bytes e rs) rest

    piece-here : piece_at b at ≡ bytes_of e r
    piece-here = ap piece_of split ∙ piece_back e r laid sized (records_bytes e rs ++ rest)

    size-here : length (piece_at b at) ≡ size_in e r
    size-here = ap length piece-here ∙ length-bytes_of e r laid sized []

    next : From (at + size_in e r) rs
    next =
        sym (drop-drop (size_in e r) at b) ∙ ap (drop (size_in e r)) split
        ∙ drop_at (bytes_of e r) (records_bytes e rs ++ rest) (size_in e r) (length-bytes_of e r laid sized [])

  pieces_there : (at : ℕ) (rs : List Record) → AllLaid e rs → From at rs → pieces_at b (offsets_from e at rs) ≡ map (bytes_of e) rs
  unfolding offsets_from AllLaid
  pieces_there at [] h lies = refl
  pieces_there at (r ∷ rs) h lies =
      rw (piece-here at r rs h.0 h.1 lies, pieces_there (at + size_in e r) rs h.2 (next at r rs h.0 h.1 lies))

  -- none of the first of each kind lies before where those in front of it end
  abbrev Moves : List Record → Type 0
  Moves rs = (ks : List (List ℕ)) (to at : ℕ) → to ≤ at → at ≤ length b → From at rs
      → Ahead b to (firsts_behind (piece_at b) ks (offsets_from e at rs))

  module _ (r : Record) (rs : List Record) (laid : Laid e r) (sized : Sized r) (later : Moves rs) (ks : List (List ℕ)) (to at : ℕ)
      (low : to ≤ at) (inside : at ≤ length b) (lies : From at (r ∷ rs)) where
    end_here : at + size_in e r ≤ length b
    end_here = omega (arith, size-here at r rs laid sized lies, size_inside b at inside)

    moves_by : (t : Bool) → among (piece_at b at) ks ≡ t
        → Ahead b to (firsts_behind (piece_at b) ks (at ∷ offsets_from e (at + size_in e r) rs))
    unfolding Ahead
    moves_by true is =
        rw (firsts_dropped (piece_at b) ks at (offsets_from e (at + size_in e r) rs) is)
        (later ks to (at + size_in e r) (omega arith) end_here (next at r rs laid sized lies))
    moves_by false is =
        rw (firsts_kept (piece_at b) ks at (offsets_from e (at + size_in e r) rs) is) (
          low,
          inside,
          later (ks ++ (piece_at b at ∷ [])) (to + length (piece_at b at)) (at + size_in e r)
              (omega (arith, size-here at r rs laid sized lies)) end_here (next at r rs laid sized lies),
        )

  moves : (rs : List Record) → AllLaid e rs → Moves rs
  unfolding offsets_from AllLaid Ahead
  moves [] h ks to at low inside lies = rw (firsts-none (piece_at b) ks) tt
  moves (r ∷ rs) h ks to at low inside lies =
      moves_by r rs h.0 h.1 (moves rs h.2) ks to at low inside lies (among (piece_at b at) ks) refl

pub joined_records : (e : ℕ) (rs : List Record) → joined (map (bytes_of e) rs) ≡ records_bytes e rs
unfolding joined records_bytes
joined_records e [] = refl
joined_records e (r ∷ rs) = ap (λ (l : List ℕ). bytes_of e r ++ l) (joined_records e rs)

pub offsets_records : (e at : ℕ) (rs : List Record) → AllLaid e rs → offsets at (map (bytes_of e) rs) ≡ offsets_from e at rs
unfolding offsets offsets_from AllLaid
offsets_records e at [] h = refl
offsets_records e at (r ∷ rs) h = rw (length-bytes_of e r h.0 h.1 [], offsets_records e (at + size_in e r) rs h.2)

-- ---- what is kept

module _ (e : ℕ) where
  abbrev kept : List (List ℕ) → List Record → List Record
  kept ks rs = firsts_behind (bytes_of e) ks rs

  laid_by : (ks : List (List ℕ)) (r : Record) (rs : List Record) → Laid e r → Sized r → (b : Bool) → among (bytes_of e r) ks ≡ b
      → AllLaid e (kept ks rs) → AllLaid e (kept (ks ++ (bytes_of e r ∷ [])) rs) → AllLaid e (kept ks (r ∷ rs))
  unfolding AllLaid
  laid_by ks r rs h g true is d k = rw (firsts_dropped (bytes_of e) ks r rs is) d
  laid_by ks r rs h g false is d k = rw (firsts_kept (bytes_of e) ks r rs is) (h, g, k)

  pub laid_kept : (ks : List (List ℕ)) (rs : List Record) → AllLaid e rs → AllLaid e (kept ks rs)
  unfolding AllLaid
  laid_kept ks [] h = rw (firsts-none (bytes_of e) ks) tt
  laid_kept ks (r ∷ rs) h =
      laid_by ks r rs h.0 h.1 (among (bytes_of e r) ks) refl (laid_kept ks rs h.2) (laid_kept (ks ++ (bytes_of e r ∷ [])) rs h.2)

  abbrev size : List Record → ℕ
  size rs = length (records_bytes e rs)

  size_more : (r : Record) (rs : List Record) → size (r ∷ rs) ≡ length (bytes_of e r) + size rs
  unfolding records_bytes
  size_more r rs = length-append (bytes_of e r) (records_bytes e rs)

  shorter_by : (ks : List (List ℕ)) (r : Record) (rs : List Record) (b : Bool) → among (bytes_of e r) ks ≡ b
      → size (kept ks rs) ≤ size rs → size (kept (ks ++ (bytes_of e r ∷ [])) rs) ≤ size rs → size (kept ks (r ∷ rs)) ≤ size (r ∷ rs)
  shorter_by ks r rs true is d k = omega (arith, ap size (firsts_dropped (bytes_of e) ks r rs is), size_more r rs)
  shorter_by ks r rs false is d k =
      omega (
        arith,
        ap size (firsts_kept (bytes_of e) ks r rs is),
        size_more r (kept (ks ++ (bytes_of e r ∷ [])) rs),
        size_more r rs,
      )

  pub shorter_kept : (ks : List (List ℕ)) (rs : List Record) → size (kept ks rs) ≤ size rs
  shorter_kept ks [] = omega (arith, ap size (firsts-none (bytes_of e) ks))
  shorter_kept ks (r ∷ rs) =
      shorter_by ks r rs (among (bytes_of e r) ks) refl (shorter_kept ks rs) (shorter_kept (ks ++ (bytes_of e r ∷ [])) rs)

-- ---- the whole records before the list

module _ (b : List ℕ) (bytes : AllBelow 256 b) (list e : ℕ) where
  abbrev body : List ℕ
  body = take list b

  abbrev rs : List Record
  rs = whole_records e body

  body_bytes : AllBelow 256 body
  body_bytes = below-take 256 list b bytes

  laid : AllLaid e rs
  laid = whole_laid e most_records body body_bytes

  pub few_records : length rs ≤ most_records
  few_records = whole_few e most_records body

  abbrev end : ℕ
  end = length (records_bytes e rs)

  end_inside : (end ≤ list) × (end ≤ length b)
  end_inside =
      let inside = whole_inside e most_records body body_bytes in
      (omega (arith, inside, length-take list b), omega (arith, inside, length-take list b))

  lie : From e b (drop end b) 0 rs
  lie =
      sym (ap (λ (x : List ℕ). x ++ drop end b)
      (whole_prefix e most_records body body_bytes ∙ take-take end list b end_inside.0)
      ∙ take-append-drop end b)

  pieces_are : pieces_at b (starts_in b list e) ≡ map (bytes_of e) rs
  pieces_are = pieces_there e b (drop end b) 0 rs laid lie

  pub all_inside : length (joined (pieces_at b (starts_in b list e))) ≤ length b
  all_inside = omega (arith, ap (λ (l : List (List ℕ)). length (joined l)) pieces_are, ap length (joined_records e rs), end_inside.1)

  -- the chosen pieces are the kept records' bytes
  pub firsts_are : pieces_at b (firsts_in b list e) ≡ map (bytes_of e) (firsts (bytes_of e) rs)
  firsts_are = same_firsts (piece_at b) (bytes_of e) (starts_in b list e) rs pieces_are

  pub firsts_inside : length (joined (pieces_at b (firsts_in b list e))) ≤ length b
  firsts_inside =
      omega (
        arith,
        ap (λ (l : List (List ℕ)). length (joined l)) firsts_are,
        ap length (joined_records e (firsts (bytes_of e) rs)),
        shorter_kept e [] rs,
        end_inside.1,
      )

  pub firsts-ahead : Ahead b 0 (firsts_in b list e)
  firsts-ahead = moves e b (drop end b) rs laid [] 0 0 (omega arith) (omega arith) lie
