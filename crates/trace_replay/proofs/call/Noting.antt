-- What is left to note at a place of a trace that was judged: a turn of the loop, its begin and its end. Assumes nothing.
use mathlib.Core.Path.{◌≡◌, refl, sym, ap, ◌∙◌}
use mathlib.Core.Bool.{Bool, true, false}
use mathlib.Core.List.{List, [], ◌++◌}
use Prim.Native.Nat.{ℕ, suc, ◌+◌, ◌*◌, ◌-◌, ◌≤◌, ◌<◌}
use native.Mathlib.Omega.{arith}
use lib.Dec.{eqb}
use lib.Ieee.{Float}
use lib.ListN.{length, take, drop, length-append}
use lib.Seq.{sets, drop-drop}
use borrow.Author.Tests.{eqb-true, eqb-false}
use Rattle.arith.proofs.Branches.{and_left, and_right, false_not_true}
use Rattle.octets.specs.words.Words.{word_at}
use Rattle.octets.proofs.words.Stores.{wrote_after}
use Rattle.trace_layout.specs.declared.pieces.Shape.{Shape}
use Rattle.trace.specs.declared.judge.Judged.{Judged}
use Rattle.std.specs.Prelude.{Some, None}
use Rattle.trace_layout.specs.Records.{kind_at, dim1_at, dim2_at, flag_at, laid_at, record_at, size_at, size_in}
use Rattle.trace_layout.specs.Traces.{most_records, list_at, count_at, edition_at, trailer_ok, walks, good_trace, records_in}
use Rattle.trace_layout.proofs.Fields.{kind_of, dim1_of, dim2_of, flag_of}
use Rattle.trace_layout.proofs.Records.{found, bounds, size-most}
use Rattle.trace_layout.proofs.Traces.{ends}
use Rattle.cone.specs.Codes.{numel_of}
use Rattle.trace.specs.declared.value.Recorded.{Recorded}
use Rattle.trace.specs.value.Recorded.{cone_of, recorded_of}
use Rattle.trace.specs.judge.Opening.{open_of}
use Rattle.trace_layout.specs.pieces.Shapes.{shape_at}
use Rattle.trace_layout.proofs.pieces.Shapes.{record_is_laid, none_is_not}
use Rattle.trace.proofs.judge.Walking.{not_laid, other_entry, walked_on}
use Rattle.trace.specs.reader.Reading.{found_from, behind_found, place_after}
use Rattle.trace_replay.specs.call.Replay.{same_record, noted, differing, differing_in}

-- the record that was read has the size that the bytes say
size_kept : (e : ℕ) (t : List ℕ) → size_in e (record_at e t) ≡ size_at e t
size_kept e t = rw (kind_of e t, dim1_of e t, dim2_of e t, flag_of e t)

pub noted-most : (same : Bool) (at : ℕ) → length (noted same at) ≤ 1
unfolding noted
noted-most true at = omega arith
noted-most false at = omega arith

-- a record that was found asks for points of at most 64 numbers
numel_kind : (k d₁ d₂ rule : ℕ) (exps : List Float) → d₁ ≤ 32 → d₂ ≤ 32 → (three : Bool) → eqb k 3 ≡ three
    → numel_of (record { kind = k; dim1 = d₁; dim2 = d₂; rule = rule; exps = exps }) ≤ 64
unfolding numel_of
numel_kind k d₁ d₂ rule exps h₁ h₂ true three = rw three (omega arith)
numel_kind k d₁ d₂ rule exps h₁ h₂ false three = rw three (omega arith)

pub numel_most : (e at : ℕ) (t : List ℕ) (r : Recorded) → laid_at e t ≡ true → r ≡ recorded_of e at (record_at e t) → numel_of r.cone ≤ 64
unfolding recorded_of cone_of
numel_most e at t r laid is =
    let b = bounds (kind_at t) (dim1_at t) (dim2_at t) (flag_at e t) (found e t laid).shape in
    rw (is, kind_of e t, dim1_of e t, dim2_of e t)
    (numel_kind (kind_at t) (dim1_at t) (dim2_at t) _ _ b.dim1 b.dim2 (eqb (kind_at t) 3) refl)

-- its bytes are no more than 2,380
pub size_fits : (e : ℕ) (t : List ℕ) (shape : Shape) → laid_at e t ≡ true → shape ≡ shape_at e t → shape.size ≤ 2380
unfolding shape_at
size_fits e t shape laid is =
    let b = bounds (kind_at t) (dim1_at t) (dim2_at t) (flag_at e t) (found e t laid).shape in
    omega (arith, ap (λ (x : Shape). x.size) is, size-most e (kind_at t) (dim1_at t) (dim2_at t) (flag_at e t) b)

-- ---- a trace that was judged; one that was refused has no records

good-walks : (bs : List ℕ) (g : Bool) → good_trace bs ≡ g → let o = open_of bs in
    (walks o.edition o.count 0 (take o.list bs) (drop o.list bs) ≡ true) × (o.count ≤ most_records)
unfolding open_of walks good_trace
good-walks bs true g =
    let walked = walks (edition_at bs) (count_at bs) 0 (take (list_at bs) bs) (drop (list_at bs) bs) in
    rw g (and_right (trailer_ok bs) walked g, (ends bs (and_left (trailer_ok bs) walked g)).few)
good-walks bs false g = rw g (refl, omega arith)

module _ (bs : List ℕ) (o : Judged) where
  abbrev e : ℕ
  e = o.edition

  abbrev body : List ℕ
  body = take o.list bs

  abbrev entries : List ℕ
  entries = drop o.list bs

  -- the walk from a place on succeeds
  abbrev pub Walks : ℕ → ℕ → Type 0
  Walks at i = walks e (o.count - i) at (drop at body) (drop (8 * i) entries) ≡ true

  -- the offsets from a place on
  abbrev pub left : ℕ → ℕ → List ℕ
  left at i = differing e at (records_in e (o.count - i) (drop at body))

  pub all_left : left 0 0 ≡ differing_in bs o
  unfolding differing_in
  all_left = let all : o.count - 0 ≡ o.count = omega arith in rw all

  pub none_left : (at i : ℕ) → o.count ≤ i → left at i ≡ []
  unfolding records_in differing
  none_left at i h = let none : o.count - i ≡ 0 = omega arith in rw none

module _ (bs : List ℕ) (o : Judged) (is : o ≡ open_of bs) where
  pub few : o.count ≤ most_records
  few = rw is (good-walks bs (good_trace bs) refl).1

  pub walks-begun : Walks bs o 0 0
  walks-begun = let all : o.count - 0 ≡ o.count = omega arith in rw all (rw is (good-walks bs (good_trace bs) refl).0)

  module _ (at i : ℕ) (more : i < o.count) (w : Walks bs o at i) where
    abbrev here : List ℕ
    here = drop at (body bs o)

    laid_with_lem : (x : Bool) → laid_at o.edition here ≡ x → laid_at o.edition here ≡ true
    laid_with_lem true h = h
    laid_with_lem false h = absurd (false_not_true (not_laid o.edition o.count at i (body bs o) (entries bs o) more h ∙ w))

    pub laid : laid_at o.edition here ≡ true
    laid = laid_with_lem (laid_at o.edition here) refl

    entry_with : (x : Bool) → eqb (word_at 8 (entries bs o) (8 * i)) at ≡ x → word_at 8 (entries bs o) (8 * i) ≡ at
    entry_with true h = eqb-true _ _ h
    entry_with false h = absurd (false_not_true (other_entry o.edition o.count at i (body bs o)
        (entries bs o) more laid (eqb-false _ _ h) ∙ w))

    pub never_none : found_from (body bs o) at o.edition ≡ None → ⊥
    never_none h = false_not_true (sym (none_is_not o.edition here h) ∙ laid)

    module _ (shape : Shape) (found : found_from (body bs o) at o.edition ≡ Some shape) where
      pub found_shape : shape ≡ shape_at o.edition here
      found_shape = (record_is_laid o.edition here shape found).1

      next-is : place_after (body bs o) at o.edition ≡ at + size_at o.edition here
      unfolding behind_found shape_at
      next-is = ap (behind_found at) found ∙ ap (λ (s : Shape). at + s.size) found_shape

      pub walks_on : (place : ℕ) → place ≡ place_after (body bs o) at o.edition → Walks bs o place (i + 1)
      walks_on place h =
          rw (h ∙ next-is) (walked_on o.edition o.count at i (body bs o) (entries bs o) more
          (size_at o.edition here) laid refl (entry_with _ refl) ∙ w)

      left_here : left bs o at i
          ≡ noted (same_record o.edition (record_at o.edition here)) at ++ left bs o (place_after (body bs o) at o.edition) (i + 1)
      unfolding records_in differing
      left_here =
          let turns : o.count - i ≡ suc (o.count - (i + 1)) = omega arith in
          rw (turns, next-is, size_kept o.edition here, drop-drop (size_at o.edition here) at (body bs o))

      -- one record more is noted, and the place moves behind it
      module _ (t : List ℕ) (part : t ≡ here) (same : Bool) (told : same ≡ same_record o.edition (record_at o.edition t)) (place : ℕ)
          (moved : place ≡ place_after (body bs o) at o.edition) (offsets offsets' : List ℕ) (n n' : ℕ) (behind : n'
          ≡ n + length (noted same at))
          (wrote : offsets' ≡ sets offsets n (noted same at)) where
        abbrev rest : List ℕ
        rest = left bs o place (i + 1)

        turn : left bs o at i ≡ noted same at ++ rest
        turn = rw (told, part, moved) left_here

        pub turn-length : n' + length rest ≡ n + length (left bs o at i)
        turn-length = omega (arith, behind, ap length turn, length-append (noted same at) rest)

        pub turn_writes : sets offsets' n' rest ≡ sets offsets n (left bs o at i)
        turn_writes = wrote_after offsets offsets' (sets offsets' n' rest) n n' (noted same at) rest wrote behind refl
            ∙ ap (sets offsets n) (sym turn)
