-- A trace that is judged by the trailer that was read is judged. Assumes nothing.
use mathlib.Core.Path.{◌≡◌, refl, sym, ap, ◌∙◌}
use Prim.Native.Nat.{ℕ, ◌+◌, ◌*◌, ◌≤◌}
use mathlib.Core.Bool.{Bool, true, false, ◌&&◌}
use mathlib.Core.List.{List}
use lib.Dec.{eqb, leb}
use borrow.Author.Tests.{leb-true}
use Rattle.arith.proofs.Branches.{and_left, and_right}
use Rattle.trace.specs.declared.judge.Trailer.{Trailer}
use Rattle.trace.specs.declared.judge.Judged.{Judged}
use Rattle.trace_layout.specs.Traces.{back_mark, most_records, known, trailer_ok, good_trace}
use Rattle.trace.specs.judge.Opening.{trailer_at, trailer_ok_with, good_with, open_of}

pub few_with : (n : ℕ) (t : Trailer) → trailer_ok_with n t ≡ true → t.count ≤ most_records
unfolding trailer_ok_with
few_with n t h =
    let front = leb 20 n && eqb t.mark back_mark && known t.edition in
    leb-true t.count most_records
    (and_right front (leb t.count most_records) (and_left (front && leb t.count most_records) (eqb (t.list + 8 * t.count + 20) n) h))

good_with_trailer : (bs : List ℕ) → good_with bs (trailer_at bs) ≡ good_trace bs
unfolding good_with trailer_ok_with trailer_at good_trace trailer_ok
good_with_trailer bs = refl

module _ (bs : List ℕ) (t : Trailer) (read : t ≡ trailer_at bs) (good : Bool) (judged : good ≡ good_with bs t) where
  judged-good : good ≡ good_trace bs
  judged-good = judged ∙ ap (good_with bs) read ∙ good_with_trailer bs

  pub opened : good ≡ true → ◌≡◌ {A = Judged} (record { code = 0; edition = t.edition; count = t.count; list = t.list }) (open_of bs)
  unfolding open_of trailer_at
  opened h = rw (sym judged-good ∙ h, read)

  pub refused : good ≡ false → ◌≡◌ {A = Judged} (record { code = 9; edition = 0; count = 0; list = 0 }) (open_of bs)
  unfolding open_of
  refused h = rw (sym judged-good ∙ h)
