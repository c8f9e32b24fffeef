-- What is left to walk at a place: the begin of the loop, a turn and its end. Assumes nothing.
use mathlib.Core.Path.{◌≡◌, refl, sym, ap, ◌∙◌}
use mathlib.Core.Bool.{true, false}
use mathlib.Core.List.{List, [], ◌∷◌}
use Prim.Native.Nat.{ℕ, suc, ◌+◌, ◌-◌, ◌≤◌, ◌<◌}
use native.Mathlib.Omega.{arith}
use native.Mathlib.Numerals.{add-one}
use lib.ListN.{length, drop, set, length-drop, length-set}
use lib.Seq.{sets, drop-drop}
use Rattle.octets.specs.words.Words.{AllBelow}
use Rattle.octets.proofs.words.Words.{below-drop}
use Rattle.trace_layout.specs.Records.{Record, laid_at, size_at, record_at}
use Rattle.trace_layout.specs.Traces.{most_records, records_bytes, offsets_from}
use Rattle.trace_layout.proofs.Records.{found, size-read}
use Rattle.trace.specs.declared.whole.Walked.{Walked}
use Rattle.trace.specs.whole.Whole.{whole_in, whole_records, walked_of}
use Rattle.trace.proofs.whole.Whole.{one_more, no_more, end_more}

-- what is left at a place behind i records
abbrev pub left : ℕ → List ℕ → ℕ → ℕ → List Record
left e bs at i = whole_in e (most_records - i) (drop at bs)

-- what was walked and what is left are the whole walk
pub record Reached (e : ℕ) (bs starts₀ starts : List ℕ) (at i : ℕ) : Type 0 where
  pub few : i ≤ most_records
  pub inside : at ≤ length bs
  pub room : length starts ≡ length starts₀
  pub counted : i + length (left e bs at i) ≡ length (whole_records e bs)
  pub ended : at + length (records_bytes e (left e bs at i)) ≡ length (records_bytes e (whole_records e bs))
  pub listed : sets starts i (offsets_from e at (left e bs at i)) ≡ sets starts₀ 0 (offsets_from e 0 (whole_records e bs))

pub begun : (e : ℕ) (bs starts : List ℕ) → Reached e bs starts starts 0 0
begun e bs starts =
    record { few = omega arith; inside = omega arith; room = refl; counted = omega arith; ended = omega arith; listed = refl }

pair : {i j at end : ℕ} → i ≡ j → at ≡ end → ◌≡◌ {A = Walked} (record { count = i; end = at }) (record { count = j; end = end })
pair p q = rw (p, q)

module _ (e : ℕ) (bs starts₀ starts : List ℕ) (at i : ℕ) (so_far : Reached e bs starts₀ starts at i) where
  module _ (bytes : AllBelow 256 bs) (early : i < most_records) (laid : laid_at e (drop at bs) ≡ true)
      (n : ℕ) (size : n ≡ size_at e (drop at bs)) where
    abbrev t : List ℕ
    t = drop at bs

    abbrev r : Record
    r = record_at e t

    abbrev m : ℕ
    m = most_records - (i + 1)

    one_less : most_records - i ≡ suc m
    one_less = omega arith

    moved : drop (size_at e t) t ≡ drop (at + n) bs
    moved = drop-drop (size_at e t) at bs ∙ ap (λ (k : ℕ). drop (at + k) bs) (sym size)

    -- the record here, and what is left behind it
    here : left e bs at i ≡ r ∷ left e bs (at + n) (i + 1)
    here = ap (λ (k : ℕ). whole_in e k t) one_less ∙ one_more e m t laid ∙ ap (λ (x : List ℕ). r ∷ whole_in e m x) moved

    pub turn_inside : at + n ≤ length bs
    turn_inside = omega (arith, (found e t laid).room, length-drop at bs, so_far.inside, size)

    end_here : length (records_bytes e (left e bs at i)) ≡ n + length (records_bytes e (left e bs (at + n) (i + 1)))
    end_here =
        ap (λ (k : ℕ). length (records_bytes e (whole_in e k t))) one_less ∙ end_more e m t (below-drop 256 at bs bytes) laid
        ∙ ap (λ (x : List ℕ). size_at e t + length (records_bytes e (whole_in e m x))) moved
        ∙ ap (λ (k : ℕ). k + length (records_bytes e (left e bs (at + n) (i + 1)))) (sym size)

    offsets-here : offsets_from e at (left e bs at i) ≡ at ∷ offsets_from e (at + n) (left e bs (at + n) (i + 1))
    unfolding offsets_from
    offsets-here =
        ap (offsets_from e at) here
        ∙ ap (λ (k : ℕ). at ∷ offsets_from e (at + k) (left e bs (at + n) (i + 1)))
        (size-read e t (below-drop 256 at bs bytes) laid ∙ sym size)

    pub turned : Reached e bs starts₀ (set starts i at) (at + n) (i + 1)
    turned = record {
      few = omega arith;
      inside = turn_inside;
      room = length-set starts i at ∙ so_far.room;
      counted = omega (arith, so_far.counted, ap length here);
      ended = omega (arith, so_far.ended, end_here);
      listed =
          ap (λ (k : ℕ). sets (set starts i at) k (offsets_from e (at + n) (left e bs (at + n) (i + 1)))) (add-one i)
          ∙ ap (sets starts i) (sym offsets-here) ∙ so_far.listed;
    }

  -- the end: nothing is left
  module _ (none : left e bs at i ≡ []) where
    pub walked : ◌≡◌ {A = Walked} (record { count = i; end = at }) (walked_of e bs)
    unfolding walked_of records_bytes
    walked =
        let count : i ≡ length (whole_records e bs) = omega (arith, so_far.counted, ap length none) in
        let place : at ≡ length (records_bytes e (whole_records e bs)) =
        omega (arith, so_far.ended, ap (λ (x : List Record). length (records_bytes e x)) none) in
        pair count place

    pub all_listed : starts ≡ sets starts₀ 0 (offsets_from e 0 (whole_records e bs))
    unfolding offsets_from
    all_listed = ap (λ (x : List Record). sets starts i (offsets_from e at x)) (sym none) ∙ so_far.listed

  pub none_laid : laid_at e (drop at bs) ≡ false → left e bs at i ≡ []
  none_laid h = no_more e (most_records - i) (drop at bs) h

  pub none_more : most_records ≤ i → left e bs at i ≡ []
  unfolding whole_in
  none_more h = let zero_left : most_records - i ≡ 0 = omega arith in ap (λ (k : ℕ). whole_in e k (drop at bs)) zero_left
