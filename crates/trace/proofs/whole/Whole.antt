-- The whole records at the front of bytes: one turn, what they are, and that records which were written are found. Assumes nothing.
use mathlib.Core.Path.{◌≡◌, refl, sym, ap, ◌∙◌}
use mathlib.Core.Bool.{Bool, true, false}
use mathlib.Core.List.{List, [], ◌∷◌, ◌++◌, append_assoc}
use Prim.Native.Nat.{ℕ, zero, suc, ◌+◌, ◌-◌, ◌≤◌, ◌<◌}
use native.Mathlib.Omega.{arith}
use lib.ListN.{length, take, drop, length-append, length-take}
use lib.Seq.{take-add, drop-drop, drop_at, length-take-le}
use Rattle.octets.specs.words.Words.{AllBelow}
use Rattle.octets.proofs.words.Words.{below-drop}
use Rattle.trace_layout.specs.Records.{Record, laid_at, size_at, record_at, bytes_of}
use Rattle.trace_layout.specs.Traces.{records_bytes, AllLaid}
use Rattle.trace_layout.proofs.Records.{found, size_back, record_back, laid_back, length-bytes_of, bytes_read, laid_read, sized-read}
use Rattle.trace.specs.whole.Whole.{whole_in}

module _ (e : ℕ) where
  pub one_more : (n : ℕ) (t : List ℕ) → laid_at e t ≡ true → whole_in e (suc n) t ≡ record_at e t ∷ whole_in e n (drop (size_at e t) t)
  unfolding whole_in
  one_more n t h = rw h

  pub no_more : (n : ℕ) (t : List ℕ) → laid_at e t ≡ false → whole_in e n t ≡ []
  unfolding whole_in
  no_more zero t h = refl
  no_more (suc n) t h = rw h

  few_by : (n : ℕ) (t : List ℕ) (b : Bool) → laid_at e t ≡ b → length (whole_in e n (drop (size_at e t) t)) ≤ n
      → length (whole_in e (suc n) t) ≤ suc n
  few_by n t true h later = omega (arith, ap length (one_more n t h))
  few_by n t false h later = omega (arith, ap length (no_more (suc n) t h))

  pub whole_few : (n : ℕ) (t : List ℕ) → length (whole_in e n t) ≤ n
  unfolding whole_in
  whole_few zero t = omega arith
  whole_few (suc n) t = few_by n t (laid_at e t) refl (whole_few n (drop (size_at e t) t))

  laid_by : (n : ℕ) (t : List ℕ) → AllBelow 256 t → (b : Bool) → laid_at e t ≡ b → AllLaid e (whole_in e n (drop (size_at e t) t))
      → AllLaid e (whole_in e (suc n) t)
  unfolding AllLaid
  laid_by n t bytes true h later = rw (one_more n t h) (laid_read e t bytes h, sized-read e t bytes h, later)
  laid_by n t bytes false h later = rw (no_more (suc n) t h) tt

  pub whole_laid : (n : ℕ) (t : List ℕ) → AllBelow 256 t → AllLaid e (whole_in e n t)
  unfolding whole_in AllLaid
  whole_laid zero t bytes = tt
  whole_laid (suc n) t bytes =
      laid_by n t bytes (laid_at e t) refl (whole_laid n (drop (size_at e t) t) (below-drop 256 (size_at e t) t bytes))

  -- where the whole records end
  abbrev pub end : ℕ → List ℕ → ℕ
  end n t = length (records_bytes e (whole_in e n t))

  -- the record at the front, and those behind it
  module _ (n : ℕ) (t : List ℕ) (bytes : AllBelow 256 t) (laid : laid_at e t ≡ true) where
    abbrev size : ℕ
    size = size_at e t

    abbrev behind : List ℕ
    behind = records_bytes e (whole_in e n (drop size t))

    bytes_more : records_bytes e (whole_in e (suc n) t) ≡ take size t ++ behind
    unfolding records_bytes
    bytes_more = ap (records_bytes e) (one_more n t laid) ∙ ap (λ (x : List ℕ). x ++ behind) (bytes_read e t bytes laid)

    pub end_more : end (suc n) t ≡ size + length behind
    end_more =
        ap length bytes_more ∙ length-append (take size t) behind
        ∙ ap (λ (k : ℕ). k + length behind) (length-take-le size t (found e t laid).room)

    prefix_more : behind ≡ take (length behind) (drop size t) → records_bytes e (whole_in e (suc n) t) ≡ take (end (suc n) t) t
    prefix_more later =
        bytes_more ∙ ap (λ (x : List ℕ). take size t ++ x) later ∙ sym (take-add size (length behind) t)
        ∙ ap (λ (k : ℕ). take k t) (sym end_more)

    stopped_more : laid_at e (drop (length behind) (drop size t)) ≡ false → laid_at e (drop (end (suc n) t) t) ≡ false
    stopped_more later =
        ap (λ (k : ℕ). laid_at e (drop k t)) end_more ∙ ap (laid_at e) (sym (drop-drop (length behind) size t)) ∙ later

  prefix_by : (n : ℕ) (t : List ℕ) → AllBelow 256 t → (b : Bool) → laid_at e t ≡ b → records_bytes e (whole_in e n (drop (size_at e t) t))
      ≡ take (end n (drop (size_at e t) t)) (drop (size_at e t) t)
      → records_bytes e (whole_in e (suc n) t) ≡ take (end (suc n) t) t
  unfolding records_bytes
  prefix_by n t bytes true h later = prefix_more n t bytes h later
  prefix_by n t bytes false h later = rw (no_more (suc n) t h)

  -- their bytes are the first
  pub whole_prefix : (n : ℕ) (t : List ℕ) → AllBelow 256 t → records_bytes e (whole_in e n t) ≡ take (end n t) t
  unfolding whole_in records_bytes
  whole_prefix zero t bytes = refl
  whole_prefix (suc n) t bytes =
      prefix_by n t bytes (laid_at e t) refl (whole_prefix n (drop (size_at e t) t) (below-drop 256 (size_at e t) t bytes))

  pub whole_inside : (n : ℕ) (t : List ℕ) → AllBelow 256 t → end n t ≤ length t
  whole_inside n t bytes = omega (arith, ap length (whole_prefix n t bytes), length-take (end n t) t)

  stopped_by : (n : ℕ) (t : List ℕ) → AllBelow 256 t → (b : Bool) → laid_at e t ≡ b → (length (whole_in e n (drop (size_at e t) t)) < n
      → laid_at e (drop (end n (drop (size_at e t) t)) (drop (size_at e t) t)) ≡ false)
      → length (whole_in e (suc n) t) < suc n → laid_at e (drop (end (suc n) t) t) ≡ false
  unfolding records_bytes
  stopped_by n t bytes true h later g = stopped_more n t bytes h (later (omega (arith, ap length (one_more n t h))))
  stopped_by n t bytes false h later g = rw (no_more (suc n) t h) h

  -- and where they are fewer than were asked for, none follows
  pub whole_stopped : (n : ℕ) (t : List ℕ) → AllBelow 256 t → length (whole_in e n t) < n → laid_at e (drop (end n t) t) ≡ false
  whole_stopped zero t bytes g = absurd (omega arith)
  whole_stopped (suc n) t bytes g =
      stopped_by n t bytes (laid_at e t) refl (whole_stopped n (drop (size_at e t) t) (below-drop 256 (size_at e t) t bytes)) g

  -- records that were written are found, whatever follows them
  pub whole_written : (n : ℕ) (rs : List Record) (rest : List ℕ) → AllLaid e rs → length rs ≤ n
      → whole_in e n (records_bytes e rs ++ rest) ≡ rs ++ whole_in e (n - length rs) rest
  unfolding records_bytes AllLaid
  whole_written n [] rest h g = let all : n ≡ n - 0 = omega arith in ap (λ (k : ℕ). whole_in e k rest) all
  whole_written zero (r ∷ rs) rest h g = absurd (omega arith)
  whole_written (suc n) (r ∷ rs) rest h g =
      let behind = records_bytes e rs ++ rest in
      let fewer : suc n - suc (length rs) ≡ n - length rs = omega arith in
      rw (
        append_assoc (bytes_of e r) (records_bytes e rs) rest,
        one_more n (bytes_of e r ++ behind) (laid_back e r h.0 h.1 behind),
        record_back e r h.0 h.1 behind,
        size_back e r h.0 h.1 behind,
        drop_at (bytes_of e r) behind _ (length-bytes_of e r h.0 h.1 []),
        whole_written n rs rest h.2 (omega arith),
        fewer,
      )
