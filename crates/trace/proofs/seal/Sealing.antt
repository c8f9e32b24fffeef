-- Records with list and trailer behind them are a trace, and how long it is. Assumes nothing.
use mathlib.Core.Path.{◌≡◌, ap, ◌∙◌}
use mathlib.Core.List.{List, ◌++◌}
use Prim.Native.Nat.{ℕ, ◌+◌, ◌*◌}
use native.Mathlib.Omega.{arith}
use lib.ListN.{length, length-append}
use lib.Seq.{sets}
use Rattle.octets.specs.words.Words.{row_bytes}
use Rattle.octets.proofs.words.Words.{length-row_bytes}
use Rattle.octets.proofs.words.Stores.{wrote_after}
use Rattle.trace_layout.specs.Records.{Record}
use Rattle.trace_layout.specs.Traces.{records_bytes, offsets_from, trailer_of, trace_of}
use Rattle.trace_layout.proofs.Traces.{length-offsets, length_trailer}
use Rattle.trace.specs.seal.Seal.{seal_of}

module _ (e : ℕ) (rs : List Record) where
  abbrev body : List ℕ
  body = records_bytes e rs

  abbrev starts : List ℕ
  starts = offsets_from e 0 rs

  pub sealed : body ++ seal_of e (length body) starts ≡ trace_of e rs
  unfolding seal_of trace_of
  sealed = ap (λ (n : ℕ). body ++ (row_bytes 8 starts ++ trailer_of (length body) n e)) (length-offsets e 0 rs)

  pub length-trace : length (trace_of e rs) ≡ length body + 8 * length rs + 20
  unfolding trace_of
  length-trace =
      let trailer = trailer_of (length body) (length rs) e in
      length-append body (row_bytes 8 starts ++ trailer)
      ∙ omega (
        arith,
        length-append (row_bytes 8 starts) trailer,
        length-row_bytes 8 starts,
        length-offsets e 0 rs,
        length_trailer (length body) (length rs) e,
      )

  -- records that were put at the front of a slice, and then sealed
  pub put_and_sealed : (out copied done : List ℕ) → copied ≡ sets out 0 body
      → done ≡ sets copied (length body) (seal_of e (length body) starts)
      → done ≡ sets out 0 (trace_of e rs)
  put_and_sealed out copied done first second =
      let place : length body ≡ 0 + length body = omega arith in
      wrote_after out copied done 0 (length body) body (seal_of e (length body) starts) first place second ∙ ap (sets out 0) sealed
